-- Pieces as lines of JSON.
use Rattle.std.specs.Prelude.{ℕ, ◌+◌, List, [], ◌∷◌, ◌++◌, map, flat_map, Option, Some, None, codes}
use Rattle.std.specs.Fmt.{decimal}
use Rattle.json.specs.Print.{quoted}
use Rattle.htmd_commonmark.specs.DocumentMarkdown.{markdown_of}
use Rattle.htmd_commonmark.specs.declared.options.DocumentOptions.{DocumentOptions}
use Rattle.htmd_chunks.specs.JointNames.{name_of}
use Rattle.htmd_chunks.specs.Pieces.{Piece, piece_options}

-- texts behind others in an array
abbrev pub more_texts : List (List ℕ) → List ℕ
more_texts = flat_map (λ s. codes "," ++ quoted s)

-- texts as an array
abbrev pub texts : List (List ℕ) → List ℕ
texts [] = codes "[]"
texts (s ∷ ss) = codes "[" ++ quoted s ++ more_texts ss ++ codes "]"

-- the member that names the page, and the one with its front matter, which is JSON
abbrev pub page_member : Option (List ℕ) → List ℕ
page_member None = []
page_member (Some page) = codes "\"page\":" ++ quoted page ++ codes ","

abbrev pub front_member : Option (List ℕ) → List ℕ
front_member None = []
front_member (Some front) = codes "\"front\":" ++ front ++ codes ","

-- what each line begins with
abbrev pub beginning : Option (List ℕ) → Option (List ℕ) → List ℕ
beginning page front = codes "{" ++ page_member page ++ front_member front

-- the number of the piece and what it stands under
abbrev pub number_and_path : ℕ → Piece → List ℕ
number_and_path n p = codes "\"n\":" ++ decimal n ++ codes ",\"path\":" ++ texts p.path

-- where it begins, and how it goes on
abbrev pub start_and_joints : Piece → List ℕ
start_and_joints p =
    codes ",\"start\":" ++ decimal p.start ++ codes ",\"continues\":" ++ texts (map name_of p.continues)

abbrev pub markdown_member : DocumentOptions → Piece → List ℕ
markdown_member options p = codes ",\"markdown\":" ++ quoted (markdown_of options p.blocks)

-- the line of the piece with this number
abbrev pub line : DocumentOptions → List ℕ → ℕ → Piece → List ℕ
line options begin n p =
    begin ++ number_and_path n p ++ start_and_joints p ++ markdown_member options p ++ codes "}\n"

-- lines of pieces, numbered from here
abbrev pub lines_from : DocumentOptions → List ℕ → ℕ → List Piece → List ℕ
lines_from options begin n [] = []
lines_from options begin n (p ∷ pieces) = line options begin n p ++ lines_from options begin (n + 1) pieces

-- a line for each piece, numbered from 0
abbrev pub json_lines : DocumentOptions → Option (List ℕ) → Option (List ℕ) → List Piece → List ℕ
json_lines options page front pieces = lines_from (piece_options options) (beginning page front) 0 pieces

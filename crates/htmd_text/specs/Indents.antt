-- The lines of a list item after spaces.
use Rattle.std.specs.Prelude.{ℕ, Bool, ◌==◌, if◌then◌else◌, List, [], ◌∷◌, ◌++◌, map, replicate}
use Rattle.std.specs.List.{flat_map}
use Rattle.std.specs.Str.Lines.{lines}
use Rattle.htmd_lexical.specs.Characters.{line_feed, space}
use Rattle.htmd_text.specs.Trims.{trimmed_end}
use Rattle.htmd_lexical.specs.WhiteSpace.{is_document_white_space}

-- a line, without document white space at its end if asked
abbrev pub line_text : Bool → List ℕ → List ℕ
line_text trim_line_end line = if trim_line_end then trimmed_end is_document_white_space line else line

-- a line after this many spaces, unless it is empty
abbrev pub indented_line : ℕ → List ℕ → List ℕ
indented_line indent [] = []
indented_line indent (b ∷ line) = replicate indent space ++ b ∷ line

-- a line feed, and the line after the spaces
abbrev pub next_line : ℕ → List ℕ → List ℕ
next_line indent line = line_feed ∷ indented_line indent line

-- the lines, joined by line feeds, each but the first after this many spaces
abbrev pub indented_lines : ℕ → List (List ℕ) → List ℕ
indented_lines indent [] = []
indented_lines indent (first ∷ rest) = first ++ flat_map (next_line indent) rest

-- The text whose lines (those of Rust's `str::lines`) stand after this many spaces, except the
-- first; without spaces the text itself.
abbrev pub indented_text : List ℕ → ℕ → Bool → List ℕ
indented_text s indent trim_line_end =
    if indent == 0 then s else indented_lines indent (map (line_text trim_line_end) (lines s))

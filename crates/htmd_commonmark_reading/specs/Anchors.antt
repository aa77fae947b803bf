-- Tags with an attribute in lines: anchors, which say where a link with `#` leads to, and abbreviations.
use Rattle.std.specs.Prelude.{ℕ, ◌==◌, if◌then◌else◌, List, [], ◌∷◌, codes, drop, Option, Some, None}
use Rattle.std.specs.Str.{bytes_eq}
use Rattle.htmd_lexical.specs.Characters.{ampersand, less_than_sign, greater_than_sign, quotation_mark, vertical_bar}
use Rattle.htmd_lexical.specs.Characters.{right_square_bracket}
use Rattle.htmd_lexical.specs.CharacterClasses.{begins_with}
use Rattle.htmd_document.specs.Tags.{anchor_tag, abbreviation_tag}

-- what follows an ampersand, with the character that a reference stands for
abbrev pub after_ampersand : List ℕ → List ℕ
after_ampersand s =
    if begins_with (codes "amp;") s then ampersand ∷ drop 4 s
    else if begins_with (codes "lt;") s then less_than_sign ∷ drop 3 s
    else if begins_with (codes "gt;") s then greater_than_sign ∷ drop 3 s
    else if begins_with (codes "quot;") s then quotation_mark ∷ drop 5 s
    else if begins_with (codes "#124;") s then vertical_bar ∷ drop 5 s
    else if begins_with (codes "#93;") s then right_square_bracket ∷ drop 4 s
    else ampersand ∷ s

-- an attribute's value up to the quotation mark that ends it
abbrev pub value : List ℕ → List ℕ
value [] = []
value (c ∷ s) =
    if c == quotation_mark then []
    else if c == ampersand then after_ampersand (value s)
    else c ∷ value s

-- the id of a tag that begins an anchor, which has no other attribute
abbrev pub anchor_id : List ℕ → Option (List ℕ)
anchor_id tag = let id = value (drop 7 tag) in if bytes_eq (anchor_tag id) tag then Some id else None

-- the title of a tag that begins an abbreviation, which has no other attribute
abbrev pub abbreviation_title : List ℕ → Option (List ℕ)
abbreviation_title tag =
    let title = value (drop 13 tag) in if bytes_eq (abbreviation_tag title) tag then Some title else None

-- Lines, and the fields of a line, as PostgreSQL's COPY writes them: "COPY", File Formats, Text Format.
use Rattle.std.specs.Prelude.{◌==◌, if◌then◌else◌, ℕ, Bool, true, false, List, [], ◌∷◌, codes}
use Rattle.std.specs.Str.{bytes_eq}
use Rattle.htmd_lexical.specs.Characters.{line_feed, tab}

-- the text has no such byte
abbrev pub lacks : ℕ → List ℕ → Bool
lacks b [] = true
lacks b (c ∷ s) = if c == b then false else lacks b s

-- the lines with a byte before the first one; a first line of that byte if there is none
abbrev pub before_lines : ℕ → List (List ℕ) → List (List ℕ)
before_lines b [] = (b ∷ []) ∷ []
before_lines b (line ∷ more) = (b ∷ line) ∷ more

-- the lines of a text, each without its line feed; what follows the last line feed is a line unless it is empty
abbrev pub lines : List ℕ → List (List ℕ)
lines [] = []
lines (b ∷ s) = if b == line_feed then [] ∷ lines s else before_lines b (lines s)

-- the line that ends the data: a backslash and a full stop
abbrev pub end_mark : List ℕ
end_mark = codes "\\."

-- the lines before the end mark, if there is one
abbrev pub before_end : List (List ℕ) → List (List ℕ)
before_end [] = []
before_end (line ∷ more) = if bytes_eq line end_mark then [] else line ∷ before_end more

-- the rows of a text
abbrev pub rows : List ℕ → List (List ℕ)
rows bytes = before_end (lines bytes)

-- the part of a row before its last field: the other fields, each with the tab after it
abbrev pub other_fields : List ℕ → List ℕ
other_fields [] = []
other_fields (b ∷ s) = if lacks tab (b ∷ s) then [] else b ∷ other_fields s

-- the part of a row after its last tab
abbrev pub last_field : List ℕ → List ℕ
last_field [] = []
last_field (b ∷ s) = if lacks tab (b ∷ s) then b ∷ s else last_field s

-- How a table is read, apart from how it is written.
use Rattle.std.specs.Prelude.{◌≡◌, ℕ, ◌+◌, ◌-◌, max, ◌==◌, List, map, fold, length, take, drop, count_by, All}
use Rattle.std.specs.List.{slice_split}
use Rattle.std.specs.Str.{chars}
use Rattle.std.specs.Str.Lines.{lines}
use Rattle.htmd_lexical.specs.Characters.{vertical_bar}
use Rattle.htmd_text.specs.Trims.{trimmed_text}
use Rattle.htmd_lexical.specs.WhiteSpace.{is_document_white_space}

-- the parts of a line between two of its bars
abbrev pub between_bars : List ℕ → List (List ℕ)
between_bars s = let parts = slice_split (λ b. b == vertical_bar) s in drop 1 (take (length parts - 1) parts)

-- the cells of a line: it is cut at its bars, and the parts lose the document white space at their ends
abbrev pub read_row : List ℕ → List (List ℕ)
read_row s = map (trimmed_text is_document_white_space) (between_bars s)

-- how many bars a text has
abbrev pub bars : List ℕ → ℕ
bars s = count_by (λ b. b == vertical_bar) s

-- the most cells of a line
abbrev pub column_count : List (List (List ℕ)) → ℕ
column_count rows = fold (λ count cells. max count (length cells)) 0 rows

-- a line of this many characters, with one bar more than columns
pub record IsTableLine (width columns : ℕ) (line : List ℕ) : Type 0 where
  pub characters : length (chars line) ≡ width
  pub bars : bars line ≡ columns + 1

-- all lines of the text (those of Rust's `str::lines`) have equally many characters, and one bar more
-- than there are columns
abbrev pub IsEven : ℕ → List ℕ → Type 0
IsEven columns s = (width : ℕ) × All (IsTableLine width columns) (lines s)

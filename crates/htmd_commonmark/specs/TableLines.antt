-- Tables (GitHub Flavored Markdown 0.29, 4.10).
use Rattle.std.specs.Prelude.{ℕ, ◌+◌, ◌-◌, Bool, true, false, ◌==◌, nat_le, max, if◌then◌else◌, List, []}
use Rattle.std.specs.Prelude.{◌∷◌, ◌++◌, fold, length, map, replicate, codes}
use Rattle.std.specs.List.{flat_map}
use Rattle.htmd_lexical.specs.Characters.{line_feed, space, hyphen, colon, vertical_bar}
use Rattle.htmd_document.specs.declared.document.Alignment.{Alignment}
use Rattle.htmd_document.specs.declared.document.Alignment.TheVariants.{Left, Center, Right}
use Rattle.htmd_commonmark.specs.Columns.{width_of}

-- a cell's text with a backslash before each bar
abbrev pub in_cell : ℕ → List ℕ
in_cell b = if b == vertical_bar then codes "\\|" else b ∷ []

abbrev pub with_escaped_bars : List ℕ → List ℕ
with_escaped_bars s = flat_map in_cell s

-- ---- widths

-- with fewer dashes, not every reader sees a separator
abbrev pub narrowest : ℕ
narrowest = 3

-- the longest line that is padded
abbrev pub longest_padded : ℕ
longest_padded = 100

-- columns as wide as these and as the cells of one more row; cells beyond the columns don't count
abbrev pub widened : List ℕ → List (List ℕ) → List ℕ
widened [] cells = []
widened (width ∷ widths) [] = width ∷ widths
widened (width ∷ widths) (cell ∷ cells) = max width (width_of cell) ∷ widened widths cells

-- the header's cells make the columns
abbrev pub column_widths : List (List ℕ) → List (List (List ℕ)) → List ℕ
column_widths header rows = fold widened (map (λ cell. max narrowest (width_of cell)) header) rows

-- how many columns a line of these widths takes: a bar at its front, and in each column two spaces and a bar more
abbrev pub line_width : List ℕ → ℕ
line_width [] = 1
line_width (width ∷ widths) = width + 3 + line_width widths

-- ---- cells

-- a cell between spaces: one on each side, and after the cell as many as are missing to the width
abbrev pub padded_cell : List ℕ → ℕ → List ℕ
padded_cell cell width = space ∷ (cell ++ (replicate (width - width_of cell) space ++ space ∷ []))

-- the cells of a line, each with its column's width and a bar after it
abbrev pub barred_cells : List (List ℕ) → List ℕ → List ℕ
barred_cells [] widths = []
barred_cells (cell ∷ cells) [] = []
barred_cells (cell ∷ cells) (width ∷ widths) = padded_cell cell width ++ vertical_bar ∷ barred_cells cells widths

-- a line of cells
abbrev pub line : List (List ℕ) → List ℕ → List ℕ
line cells widths = vertical_bar ∷ barred_cells cells widths

-- ---- lines

abbrev pub is_left : Alignment → Bool
is_left Left = true
is_left Center = true
is_left _ = false

abbrev pub is_right : Alignment → Bool
is_right Right = true
is_right Center = true
is_right _ = false

abbrev pub colon_if : Bool → List ℕ
colon_if is_aligned = if is_aligned then colon ∷ [] else hyphen ∷ []

-- the dashes under a column, with a colon at each side to which it is aligned
abbrev pub dashes : Alignment → ℕ → List ℕ
dashes alignment width = colon_if (is_left alignment) ++ replicate (width - 2) hyphen ++ colon_if (is_right alignment)

abbrev pub delimiters : List Alignment → List ℕ → List ℕ
delimiters [] widths = []
delimiters (alignment ∷ alignments) [] = []
delimiters (alignment ∷ alignments) (width ∷ widths) =
    (codes " " ++ dashes alignment width ++ codes " |") ++ delimiters alignments widths

-- the cells of a row as they are written: where lines are padded, with an empty one for each that the row lacks
abbrev pub shown_cells : Bool → ℕ → List (List ℕ) → List (List ℕ)
shown_cells is_padded columns cells =
    if is_padded then cells ++ replicate (columns - length cells) [] else cells

abbrev pub rows_text : Bool → List ℕ → List (List (List ℕ)) → List ℕ
rows_text is_padded widths rows =
    flat_map (λ cells. line_feed ∷ line (shown_cells is_padded (length widths) cells) widths) rows

-- the lines of a table whose cells are padded to these widths, and whose columns have dashes for those
abbrev pub lines_of : Bool → List ℕ → List ℕ → List Alignment → List (List ℕ) → List (List (List ℕ))
    → List ℕ
lines_of is_padded widths dashed alignments header rows =
    line header widths ++ (codes "\n|" ++ delimiters alignments dashed) ++ rows_text is_padded widths rows

-- Cells are padded to their columns, and short rows filled up, where all lines stay short.
abbrev pub table_text : List Alignment → List (List ℕ) → List (List (List ℕ)) → List ℕ
table_text alignments header rows =
    let widths = column_widths header rows in
    if nat_le (line_width widths) longest_padded
    then lines_of true widths widths alignments header rows
    else lines_of false (replicate (length widths) 0) (replicate (length widths) narrowest) alignments header rows

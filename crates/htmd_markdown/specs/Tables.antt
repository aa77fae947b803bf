-- Tables, as extensions of CommonMark have them: a line of cells between bars for the headers, a line of
-- dashes below it, and a line for each row. All cells of a column are padded to one width.
use Rattle.std.specs.Prelude.{ℕ, ◌-◌, max, ◌==◌, if◌then◌else◌, List, [], ◌∷◌, ◌++◌, map, fold, length, replicate}
use Rattle.std.specs.Prelude.{codes, String, string_bytes, Vec}
use Rattle.std.specs.List.{flat_map}
use Rattle.std.specs.Str.{chars}
use Rattle.htmd_lexical.specs.Characters.{line_feed, carriage_return, space, hyphen, vertical_bar}
use Rattle.htmd_text.specs.Trims.{trimmed_text}
use Rattle.htmd_lexical.specs.WhiteSpace.{is_document_white_space}

-- the texts of some strings, and of a row
abbrev pub texts : {Z : Type 0} → List (String Z) → List (List ℕ)
texts cells = map (λ cell. string_bytes cell) cells

abbrev pub row_texts : {Z Y : Type 0} → Vec (String Z) Y → List (List ℕ)
row_texts row = texts row.items

-- what stands for a byte of a cell: a line feed becomes a space, a carriage return goes, and a bar
-- becomes a character reference
abbrev pub in_cell : ℕ → List ℕ
in_cell b =
    if b == line_feed then space ∷ []
    else (if b == carriage_return then []
    else (if b == vertical_bar then codes "&#124;" else b ∷ []))

-- a cell as it is written: one line without bars, and no document white space at its ends
abbrev pub normalised_cell : List ℕ → List ℕ
normalised_cell cell = trimmed_text is_document_white_space (flat_map in_cell cell)

-- how many characters a cell takes
abbrev pub cell_width : List ℕ → ℕ
cell_width cell = length (chars (normalised_cell cell))

-- the cells of a line of this many columns, as they are written; missing ones are empty
abbrev pub line_cells : ℕ → List (List ℕ) → List (List ℕ)
line_cells columns cells = map normalised_cell cells ++ replicate (columns - length cells) []

-- a cell between spaces: one on each side, and after the cell as many as are missing to the width
abbrev pub padded_cell : List ℕ → ℕ → List ℕ
padded_cell cell width = space ∷ (cell ++ (replicate (width - length (chars cell)) space ++ space ∷ []))

-- the cells of a line, each with its column's width and a bar after it
abbrev pub barred_cells : List (List ℕ) → List ℕ → List ℕ
barred_cells [] widths = []
barred_cells (cell ∷ cells) [] = []
barred_cells (cell ∷ cells) (width ∷ widths) = padded_cell cell width ++ vertical_bar ∷ barred_cells cells widths

-- a line of cells
abbrev pub line : List (List ℕ) → List ℕ → List ℕ
line cells widths = vertical_bar ∷ barred_cells cells widths

-- the line of a row, and the line's end
abbrev pub row : List (List ℕ) → List ℕ → List ℕ
row cells widths = line (line_cells (length widths) cells) widths ++ line_feed ∷ []

-- as many `-` as the column is wide
abbrev pub dashes : ℕ → List ℕ
dashes width = replicate width hyphen

-- the line between headers and rows
abbrev pub separator : List ℕ → List ℕ
separator widths = line (map dashes widths) widths ++ line_feed ∷ []

-- column by column the greater width; if one list is longer, its further columns
abbrev pub wider : List ℕ → List ℕ → List ℕ
wider [] others = others
wider (width ∷ widths) [] = width ∷ widths
wider (width ∷ widths) (other ∷ others) = max width other ∷ wider widths others

-- the widths of a table's columns: the most characters of a cell of the column
abbrev pub column_widths : List (List (List ℕ)) → List ℕ
column_widths lines = fold wider [] (map (map cell_width) lines)

-- the headers and the separator, if there are headers
abbrev pub head : List (List ℕ) → List ℕ → List ℕ
head [] widths = []
head (header ∷ headers) widths = row (header ∷ headers) widths ++ separator widths

-- the lines of a table whose columns have these widths
abbrev pub table_of_widths : List ℕ → List (List ℕ) → List (List (List ℕ)) → List ℕ
table_of_widths widths headers rows = head headers widths ++ flat_map (λ cells. row cells widths) rows

-- the table, each column as wide as its widest cell
abbrev pub table : List (List ℕ) → List (List (List ℕ)) → List ℕ
table headers rows = table_of_widths (column_widths (headers ∷ rows)) headers rows

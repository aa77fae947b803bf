-- The grid of a table whose cells may take more than one column and row (HTML, 4.9.12).
use Rattle.std.specs.Prelude.{ℕ, suc, ◌+◌, ◌-◌, ◌*◌, ◌^◌, ◌==◌, Bool, true, false, ◌||◌, nat_lt, nat_le, if◌then◌else◌}
use Rattle.std.specs.Prelude.{min, max}
use Rattle.std.specs.Prelude.{List, [], ◌∷◌, ◌++◌, length, take, drop, replicate, map, filter, sum, fold, Option, Some}
use Rattle.std.specs.Prelude.{None, get_or}
use Rattle.std.specs.List.{flat_map, list_all, prefix_len}
use Rattle.htmd_document.specs.declared.document.Alignment.{Alignment}
use Rattle.htmd_document.specs.declared.document.Alignment.TheVariants as align
use Rattle.htmd_document.specs.Documents.{Inlines, no_inlines, inline, Block, table}

-- a cell: what it holds, how many columns it takes, how many rows (0: all further ones of its group), and what
-- it says of its column
pub record Cell : Type 0 where
  pub content : Inlines
  pub columns : ℕ
  pub rows : ℕ
  pub is_header : Bool
  pub alignment : Alignment

-- the cells of a row, the number of the part of the table that it stands in, and whether that is the head
pub record Row : Type 0 where
  pub part : Option ℕ
  pub is_in_head : Bool
  pub cells : List Cell

-- Which columns of a row begin a cell, and up to which row each column is taken.
pub record Shape : Type 0 where
  pub begins : List Bool
  pub taken : List ℕ

-- up to which row a cell of row n takes its columns; no group has more rows than the first number says
abbrev pub end_of : ℕ → ℕ → ℕ
end_of n rows = n + (if rows == 0 then 2 ^ 30 else rows)

-- how many columns a cell takes before the next one that is taken
abbrev pub columns_before : List ℕ → ℕ → ℕ → ℕ
columns_before free n columns =
    let count = prefix_len (λ until. nat_le until n) free in
    if count == length free then columns else min columns count

-- row n, by up to which row each column is taken: each cell takes the next columns that are free
abbrev pub laid : ℕ → List ℕ → List Cell → Shape
laid n taken [] = record { begins = replicate (prefix_len (nat_lt n) taken) false; taken = taken }
laid n taken (cell ∷ cells) =
    let kept = prefix_len (nat_lt n) taken in
    let free = drop kept taken in
    let columns = columns_before free n cell.columns in
    let rest = laid n (drop columns free) cells in
    record {
      begins = replicate kept false ++ true ∷ replicate (columns - 1) false ++ rest.begins;
      taken = take kept taken ++ replicate columns (end_of n cell.rows) ++ rest.taken;
    }

abbrev pub is_same_part : Option ℕ → Option ℕ → Bool
is_same_part None None = true
is_same_part (Some m) (Some n) = m == n
is_same_part p q = false

-- nothing is taken where a group of rows begins
abbrev pub taken_in : Option ℕ → Option ℕ → List ℕ → List ℕ
taken_in part next taken = if is_same_part part next then taken else []

-- the shapes of the rows from row n on, below a row of this part
abbrev pub shapes_from : ℕ → Option ℕ → List ℕ → List Row → List (List Bool)
shapes_from n part taken [] = []
shapes_from n part taken (row ∷ rows) =
    let shape = laid n (taken_in part row.part taken) row.cells in
    shape.begins ∷ shapes_from (suc n) row.part shape.taken rows

abbrev pub shapes_of : List Row → List (List Bool)
shapes_of rows = shapes_from 0 None [] rows

-- the contents of the cells, each where one begins
abbrev pub filled : List Bool → List Cell → List Inlines
filled [] cells = []
filled (true ∷ begins) (cell ∷ cells) = cell.content ∷ filled begins cells
filled (true ∷ begins) [] = no_inlines ∷ filled begins []
filled (false ∷ begins) cells = no_inlines ∷ filled begins cells

abbrev pub filled_all : List (List Bool) → List Row → List (List Inlines)
filled_all [] rows = []
filled_all (begins ∷ shapes) [] = []
filled_all (begins ∷ shapes) (row ∷ rows) = filled begins row.cells ∷ filled_all shapes rows

abbrev pub contents_of : Row → List Inlines
contents_of row = map (λ (c : Cell). c.content) row.cells

abbrev pub total : {A : Type 0} → List (List A) → ℕ
total rows = sum (map (λ r. length r) rows)

-- how many cells the rows have, as far as they are counted
abbrev pub most_counted : ℕ
most_counted = 2 ^ 56

abbrev pub with_count : ℕ → Row → ℕ
with_count count row = min most_counted (count + length row.cells)

abbrev pub count_of : List Row → ℕ
count_of rows = fold with_count 0 rows

-- a table that would have more than 8 times its cells and 64 more is written without spans
abbrev pub is_too_large : List Row → Bool
is_too_large rows = nat_lt (8 * count_of rows + 64) (total (shapes_of rows))

abbrev pub grid : List Row → List (List Inlines)
grid rows = if is_too_large rows then map contents_of rows else filled_all (shapes_of rows) rows

-- ---- the table

abbrev pub is_empty_cell : Inlines → Bool
is_empty_cell no_inlines = true
is_empty_cell (inline x xs) = false

-- a cell before these; an empty one before none is none
abbrev pub with_cell : Inlines → List Inlines → List Inlines
with_cell cell [] = if is_empty_cell cell then [] else cell ∷ []
with_cell cell (next ∷ cells) = cell ∷ next ∷ cells

-- as many columns as the longest row has
abbrev pub width : List (List Inlines) → ℕ
width rows = fold (λ n row. max n (length row)) 0 rows

-- without the empty cells at its end
abbrev pub trimmed_row : List Inlines → List Inlines
trimmed_row [] = []
trimmed_row (cell ∷ cells) = with_cell cell (trimmed_row cells)

-- with empty cells up to this many columns
abbrev pub padded : ℕ → List Inlines → List Inlines
padded columns cells = cells ++ replicate (columns - length cells) no_inlines

-- without rows in which nothing shows
abbrev pub body : List (List Inlines) → List (List Inlines)
body rows = filter (λ row. nat_lt 0 (length row)) rows

abbrev pub aligned : ℕ → List Alignment → List Alignment
aligned columns alignments = take columns alignments ++ replicate (columns - length alignments) align.None

-- the table of these rows, which begin with its header or not, in so many columns
abbrev pub table_in : ℕ → List Alignment → Bool → List (List Inlines) → Block
table_in columns alignments has_header lines =
    table (aligned columns alignments) (padded columns (if has_header then get_or lines 0 [] else []))
    (body (if has_header then drop 1 lines else lines))

-- none without columns
abbrev pub table_of : List Alignment → Bool → List (List Inlines) → Option Block
table_of alignments has_header lines =
    if width lines == 0 then None else Some (table_in (width lines) alignments has_header lines)

-- the empty cells at the ends of rows are none
abbrev pub table_of_all : List Alignment → Bool → List (List Inlines) → Option Block
table_of_all alignments has_header lines = table_of alignments has_header (map trimmed_row lines)

-- the first row is the header where it stands in the head, or all its cells are headers
abbrev pub begins_with_header : Row → Bool
begins_with_header first = first.is_in_head || list_all (λ (c : Cell). c.is_header) first.cells

-- the cells of the first row say how the columns are aligned
abbrev pub alignments_of : Row → List Alignment
alignments_of first = flat_map (λ (c : Cell). replicate c.columns c.alignment) first.cells

-- the table of these rows, if there are some
abbrev pub table_of_rows : List Row → Option Block
table_of_rows [] = None
table_of_rows (first ∷ rows) =
    table_of_all (alignments_of first) (begins_with_header first) (grid (first ∷ rows))

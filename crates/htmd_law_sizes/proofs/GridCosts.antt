-- How big a table is.
use Rattle.std.proofs.Common.{◌≡◌, refl, ap, ℕ, zero, suc, ◌+◌, ◌*◌, ◌-◌, ◌≤◌, Bool, true, false, List, [], ◌∷◌, ◌++◌}
use Rattle.std.proofs.Common.{length, map, arith}
use Rattle.std.proofs.lemmas.Bool.Decides.{nat_tests}
use Rattle.std.proofs.lemmas.List.{length-append, length-replicate}
use Rattle.std.specs.Prelude.{max, nat_lt, ◌==◌, fold, replicate, if◌then◌else◌, Some, None}
use Rattle.htmd_document.specs.declared.document.Alignment.{Alignment}
use Rattle.htmd_document.specs.Documents.{Inlines, no_inlines}
use Rattle.htmd_flow.specs.Flows.{block_part, filled_rows}
use Rattle.htmd_flow.specs.Grids.{Cell, Row, filled, filled_all, contents_of, shapes_of}
use Rattle.htmd_flow.specs.Grids.{with_count, count_of, is_too_large, grid, is_empty_cell, with_cell, trimmed_row, width}
use Rattle.htmd_flow.specs.Grids.{padded, body, table_in, table_of, alignments_of, begins_with_header}
use Rattle.htmd_flow.specs.Grids.{table_of_rows}
use Rattle.htmd_flow.specs.Grids as grids
use Rattle.htmd_law_sizes.proofs.HeavySizes.{heavy_inlines, heavy_cells, heavy_rows}
use Rattle.htmd_law_sizes.proofs.PartCosts.{costs}

-- ---- what is in rows

-- the contents of a row, of rows, and how many cells
abbrev pub in_row : List Inlines → ℕ
in_row [] = 0
in_row (content ∷ cells) = heavy_inlines content + in_row cells

abbrev pub in_rows : List (List Inlines) → ℕ
in_rows [] = 0
in_rows (cells ∷ rows) = in_row cells + in_rows rows

abbrev pub lengths : List (List Inlines) → ℕ
lengths [] = 0
lengths (cells ∷ rows) = length cells + lengths rows

abbrev pub in_cells : List Cell → ℕ
in_cells [] = 0
in_cells (cell ∷ cells) = heavy_inlines cell.content + in_cells cells

abbrev pub in_all : List Row → ℕ
in_all [] = 0
in_all (row ∷ rows) = in_cells row.cells + in_all rows

abbrev pub cell_count : List Row → ℕ
cell_count [] = 0
cell_count (row ∷ rows) = length row.cells + cell_count rows

cells_size : (cells : List Inlines) → heavy_cells cells ≡ length cells + in_row cells
cells_size [] = refl
cells_size (content ∷ cells) = omega (arith, cells_size cells)

-- ---- the grid

filled_in : (begins : List Bool) (cells : List Cell) → in_row (filled begins cells) ≤ in_cells cells
filled_in [] cells = omega arith
filled_in (true ∷ begins) (cell ∷ cells) = omega (arith, filled_in begins cells)
filled_in (true ∷ begins) [] = omega (arith, filled_in begins [])
filled_in (false ∷ begins) cells = omega (arith, filled_in begins cells)

filled_length : (begins : List Bool) (cells : List Cell) → length (filled begins cells) ≡ length begins
filled_length [] cells = refl
filled_length (true ∷ begins) (cell ∷ cells) = ap suc (filled_length begins cells)
filled_length (true ∷ begins) [] = ap suc (filled_length begins [])
filled_length (false ∷ begins) cells = ap suc (filled_length begins cells)

-- no more in it than in the rows, in at most so many places
record IsGrid (g : List (List Inlines)) (rows : List Row) (places : ℕ) : Type 0 where
  inside : in_rows g ≤ in_all rows
  wide : lengths g ≤ places

-- the places of shapes
abbrev places : List (List Bool) → ℕ
places [] = 0
places (begins ∷ shapes) = length begins + places shapes

places_from : (shapes : List (List Bool)) (k : ℕ)
    → fold ◌+◌ k (map (λ (r : List Bool). length r) shapes) ≡ k + places shapes
places_from [] k = omega arith
places_from (begins ∷ shapes) k = omega (arith, places_from shapes (k + length begins))

places_are : (shapes : List (List Bool)) → grids.total shapes ≡ 0 + places shapes
places_are shapes = places_from shapes 0

filled_grid : (shapes : List (List Bool)) (rows : List Row)
    → IsGrid (filled_all shapes rows) rows (places shapes)
filled_grid [] rows = record { inside = omega arith; wide = omega arith }
filled_grid (begins ∷ shapes) [] = record { inside = omega arith; wide = omega arith }
filled_grid (begins ∷ shapes) (row ∷ rows) =
    let i = filled_grid shapes rows in
    record {
      inside = omega (arith, filled_in begins row.cells, i.inside);
      wide = omega (arith, filled_length begins row.cells, i.wide);
    }

contents_in : (cells : List Cell)
    → (in_row (map (λ (c : Cell). c.content) cells) ≡ in_cells cells)
    × (length (map (λ (c : Cell). c.content) cells) ≡ length cells)
contents_in [] = (refl, refl)
contents_in (cell ∷ cells) =
    let i = contents_in cells in (omega (arith, i.0), omega (arith, i.1))

plain_grid : (rows : List Row) → IsGrid (map contents_of rows) rows (cell_count rows)
plain_grid [] = record { inside = omega arith; wide = omega arith }
plain_grid (row ∷ rows) =
    let i = plain_grid rows in
    let c = contents_in row.cells in
    record {
      inside = omega (arith, c.0, i.inside);
      wide = omega (arith, c.1, i.wide);
    }

counted : (rows : List Row) (k : ℕ) → fold with_count k rows ≤ k + cell_count rows
counted [] k = omega arith
counted (row ∷ rows) k = omega (arith, counted rows (with_count k row))

not_more : (a b : ℕ) → nat_lt a b ≡ false → b ≤ a
not_more a b h = grind (arith, nat_tests)

grid_is : (rows : List Row) → IsGrid (grid rows) rows (8 * cell_count rows + 64)
grid_is rows = go (is_too_large rows) refl
  where
    go : (t : Bool) → is_too_large rows ≡ t
        → IsGrid (if t then map contents_of rows else filled_all (shapes_of rows) rows) rows
        (8 * cell_count rows + 64)
    go true e =
        let i = plain_grid rows in
        record { inside = i.inside; wide = omega (arith, i.wide) }
    go false e =
        let i = filled_grid (shapes_of rows) rows in
        let h = not_more (8 * count_of rows + 64) (grids.total (shapes_of rows)) e in
        let c = counted rows 0 in
        let s = places_are (shapes_of rows) in
        record { inside = i.inside; wide = omega (arith, i.wide, h, c, s) }

-- ---- rows without the empty cells at their ends

with_le : (cell : Inlines) (cells : List Inlines)
    → (in_row (with_cell cell cells) ≤ heavy_inlines cell + in_row cells)
    × (length (with_cell cell cells) ≤ suc (length cells))
with_le cell [] = go (is_empty_cell cell)
  where
    go : (t : Bool)
        → (in_row (if t then [] else cell ∷ []) ≤ heavy_inlines cell + 0)
        × (length (if t then [] else cell ∷ []) ≤ 1)
    go true = (omega arith, omega arith)
    go false = (omega arith, omega arith)
with_le cell (next ∷ cells) = (omega arith, omega arith)

trimmed_le : (cells : List Inlines)
    → (in_row (trimmed_row cells) ≤ in_row cells) × (length (trimmed_row cells) ≤ length cells)
trimmed_le [] = (omega arith, omega arith)
trimmed_le (cell ∷ cells) =
    let i = trimmed_le cells in
    let j = with_le cell (trimmed_row cells) in
    (omega (arith, i.0, j.0), omega (arith, i.1, j.1))

pub trimmed_rows : (g : List (List Inlines))
    → (in_rows (map trimmed_row g) ≤ in_rows g) × (lengths (map trimmed_row g) ≤ lengths g)
trimmed_rows [] = (omega arith, omega arith)
trimmed_rows (cells ∷ g) =
    let i = trimmed_rows g in
    let c = trimmed_le cells in
    (omega (arith, i.0, c.0), omega (arith, i.1, c.1))

-- ---- the table

width_le : (rows : List (List Inlines)) (k : ℕ)
    → fold (λ n row. max n (length row)) k rows ≤ k + lengths rows
width_le [] k = omega arith
width_le (cells ∷ rows) k = omega (arith, width_le rows (max k (length cells)))

empty_in : (n : ℕ) → in_row (replicate n no_inlines) ≡ 0
empty_in zero = refl
empty_in (suc n) = omega (arith, empty_in n)

row_append : (a b : List Inlines) → in_row (a ++ b) ≡ in_row a + in_row b
row_append [] b = omega arith
row_append (x ∷ a) b = omega (arith, row_append a b)

-- a row of so many places at most
padded_size : (columns w : ℕ) (cells : List Inlines) → columns ≤ w → length cells ≤ w
    → heavy_cells (padded columns cells) ≤ w + in_row cells
padded_size columns w cells h i =
    let e = replicate (columns - length cells) no_inlines in
    omega (
      arith,
      cells_size (cells ++ e),
      length-append cells e,
      length-replicate {A = Inlines} (columns - length cells) no_inlines,
      row_append cells e,
      empty_in (columns - length cells),
      h,
      i,
    )

filled_row : (n : ℕ) → nat_lt 0 n ≡ true → 1 ≤ n
filled_row n h = grind (arith, nat_tests)

-- a row that is kept has a cell
body_size : (rows : List (List Inlines)) → heavy_rows (body rows) ≤ 2 * lengths rows + in_rows rows
body_size [] = omega arith
body_size (cells ∷ rows) = go (nat_lt 0 (length cells)) refl (body_size rows)
  where
    go : (t : Bool) → nat_lt 0 (length cells) ≡ t → heavy_rows (body rows) ≤ 2 * lengths rows + in_rows rows
        → heavy_rows (if t then cells ∷ body rows else body rows)
        ≤ 2 * (length cells + lengths rows) + (in_row cells + in_rows rows)
    go true e i = omega (arith, i, cells_size cells, filled_row (length cells) e)
    go false e i = omega (arith, i)

-- the table as a part
in_cost : (al : List Alignment) (t : Bool) (lines : List (List Inlines))
    → costs (block_part (Some (table_in (width lines) al t lines))) ≤ 3 + 3 * lengths lines + in_rows lines
in_cost al true [] = omega (arith, padded_size (width []) 0 [] (omega arith) (omega arith))
in_cost al true (first ∷ rest) =
    let columns = width (first ∷ rest) in
    omega (
      arith,
      padded_size columns (lengths (first ∷ rest)) first (omega (arith, width_le (first ∷ rest) 0)) (omega arith),
      body_size rest,
    )
in_cost al false lines =
    omega (
      arith,
      padded_size (width lines) (lengths lines) [] (omega (arith, width_le lines 0)) (omega arith),
      body_size lines,
    )

pub of_cost : (al : List Alignment) (t : Bool) (lines : List (List Inlines))
    → costs (block_part (table_of al t lines)) ≤ 3 + 3 * lengths lines + in_rows lines
of_cost al t lines = go (width lines == 0)
  where
    go : (b : Bool)
        → costs (block_part (if b then None else Some (table_in (width lines) al t lines)))
        ≤ 3 + 3 * lengths lines + in_rows lines
    go true = omega arith
    go false = in_cost al t lines

pub table_cost : (rows : List Row)
    → costs (block_part (table_of_rows rows)) ≤ 195 + 24 * cell_count rows + in_all rows
table_cost [] = omega arith
table_cost (first ∷ rows) =
    let g = grid (first ∷ rows) in
    let i = grid_is (first ∷ rows) in
    let t = trimmed_rows g in
    omega (
      arith,
      of_cost (alignments_of first) (begins_with_header first) (map trimmed_row g),
      t.0,
      t.1,
      i.inside,
      i.wide,
    )

-- rows without cells aside
pub filled_le : (rows : List Row)
    → (in_all (filled_rows rows) ≤ in_all rows) × (cell_count (filled_rows rows) ≤ cell_count rows)
filled_le [] = (omega arith, omega arith)
filled_le (row ∷ rows) = go (nat_lt 0 (length row.cells)) (filled_le rows)
  where
    go : (t : Bool)
        → (in_all (filled_rows rows) ≤ in_all rows) × (cell_count (filled_rows rows) ≤ cell_count rows)
        → (in_all (if t then row ∷ filled_rows rows else filled_rows rows) ≤ in_cells row.cells + in_all rows)
        × (cell_count (if t then row ∷ filled_rows rows else filled_rows rows) ≤ length row.cells + cell_count
        rows)
    go true i = (omega (arith, i.0), omega (arith, i.1))
    go false i = (omega (arith, i.0), omega (arith, i.1))

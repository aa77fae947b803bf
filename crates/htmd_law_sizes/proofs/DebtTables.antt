-- How much of addresses a table gives.
use Rattle.std.proofs.Common.{◌≡◌, refl, ℕ, zero, suc, ◌+◌, ◌-◌, ◌≤◌, Bool, true, false, List, [], ◌∷◌, ◌++◌}
use Rattle.std.proofs.Common.{length, map, take, drop, arith}
use Rattle.std.specs.Prelude.{nat_lt, ◌==◌, filter, replicate, if◌then◌else◌, Some, None}
use Rattle.std.specs.List.{flat_map}
use Rattle.htmd_lexical.specs.Characters.{space}
use Rattle.htmd_document.specs.declared.document.Alignment.{Alignment}
use Rattle.htmd_document.specs.Documents.{Inlines, no_inlines}
use Rattle.htmd_shown.specs.Kinds.{has}
use Rattle.htmd_shown.specs.Roles as roles
use Rattle.htmd_shown.specs.SimpleTrees.{Simple}
use Rattle.htmd_flow.specs.Contexts.{Context, in_one_line, apart}
use Rattle.htmd_flow.specs.Flows.{Node, Row, flow_all, is_grid, is_cell, captions_in_one_line}
use Rattle.htmd_flow.specs.Flows.{cell_in_one_line, rows_in_one_line, before_row, grid_in_one_line}
use Rattle.htmd_flow.specs.Flows.{captions_among, cell_of, row_of, filled_rows, block_part, table_block, grid_inside}
use Rattle.htmd_flow.specs.Flows.{table_parts}
use Rattle.htmd_flow.specs.Grids.{filled, filled_all, contents_of, shapes_of, is_too_large, grid, is_empty_cell}
use Rattle.htmd_flow.specs.Grids.{with_cell, trimmed_row, width, padded, body, table_in, table_of, alignments_of}
use Rattle.htmd_flow.specs.Grids.{begins_with_header, table_of_rows}
use Rattle.htmd_flow.specs.Grids as grids
use Rattle.htmd_flow.specs.Parts.{run, edge}
use Rattle.htmd_law_sizes.proofs.DebtNodes.{AllDue, dues, opened, flow_cost}
use Rattle.htmd_law_sizes.proofs.DebtParts.{rep, Costs, at_most, nothing, both, blank_cost, edge_cost, block_cost}
use Rattle.htmd_law_sizes.proofs.DebtParts.{apart_cost, edge_before, space_blank, line_cost}
use Rattle.htmd_law_sizes.proofs.Debts.{debt_inlines, debt_cells, debt_rows, debt_block}
use Rattle.htmd_law_sizes.proofs.Leaves.{due, open_by, caption_open, cell_open}

-- ---- the grid

abbrev in_cells : List grids.Cell → ℕ
in_cells [] = 0
in_cells (cell ∷ cells) = debt_inlines cell.content + in_cells cells

abbrev in_all : List grids.Row → ℕ
in_all [] = 0
in_all (row ∷ rows) = in_cells row.cells + in_all rows

filled_le : (begins : List Bool) (cells : List grids.Cell) → debt_cells (filled begins cells) ≤ in_cells cells
filled_le [] cells = omega arith
filled_le (true ∷ begins) (cell ∷ cells) = omega (arith, filled_le begins cells)
filled_le (true ∷ begins) [] = omega (arith, filled_le begins [])
filled_le (false ∷ begins) cells = omega (arith, filled_le begins cells)

filled_rows_le : (shapes : List (List Bool)) (rows : List grids.Row)
    → debt_rows (filled_all shapes rows) ≤ in_all rows
filled_rows_le [] rows = omega arith
filled_rows_le (begins ∷ shapes) [] = omega arith
filled_rows_le (begins ∷ shapes) (row ∷ rows) =
    omega (arith, filled_le begins row.cells, filled_rows_le shapes rows)

contents_le : (cells : List grids.Cell) → debt_cells (map (λ (c : grids.Cell). c.content) cells) ≡ in_cells cells
contents_le [] = refl
contents_le (cell ∷ cells) = omega (arith, contents_le cells)

plain_le : (rows : List grids.Row) → debt_rows (map contents_of rows) ≤ in_all rows
plain_le [] = omega arith
plain_le (row ∷ rows) = omega (arith, contents_le row.cells, plain_le rows)

grid_le : (rows : List grids.Row) → debt_rows (grid rows) ≤ in_all rows
grid_le rows = go (is_too_large rows)
  where
    go : (t : Bool)
        → debt_rows (if t then map contents_of rows else filled_all (shapes_of rows) rows) ≤ in_all rows
    go true = plain_le rows
    go false = filled_rows_le (shapes_of rows) rows

with_le : (cell : Inlines) (cells : List Inlines)
    → debt_cells (with_cell cell cells) ≤ debt_inlines cell + debt_cells cells
with_le cell [] = go (is_empty_cell cell)
  where
    go : (t : Bool) → debt_cells (if t then [] else cell ∷ []) ≤ debt_inlines cell + 0
    go true = omega arith
    go false = omega arith
with_le cell (next ∷ cells) = omega arith

trimmed_le : (cells : List Inlines) → debt_cells (trimmed_row cells) ≤ debt_cells cells
trimmed_le [] = omega arith
trimmed_le (cell ∷ cells) = omega (arith, trimmed_le cells, with_le cell (trimmed_row cells))

pub trimmed_rows : (g : List (List Inlines)) → debt_rows (map trimmed_row g) ≤ debt_rows g
trimmed_rows [] = omega arith
trimmed_rows (cells ∷ g) = omega (arith, trimmed_rows g, trimmed_le cells)

empty_cells : (n : ℕ) → debt_cells (replicate n no_inlines) ≡ 0
empty_cells zero = refl
empty_cells (suc n) = omega (arith, empty_cells n)

cells_append : (a b : List Inlines) → debt_cells (a ++ b) ≡ debt_cells a + debt_cells b
cells_append [] b = omega arith
cells_append (x ∷ a) b = omega (arith, cells_append a b)

padded_le : (columns : ℕ) (cells : List Inlines) → debt_cells (padded columns cells) ≤ debt_cells cells
padded_le columns cells =
    omega (
      arith,
      cells_append cells (replicate (columns - length cells) no_inlines),
      empty_cells (columns - length cells),
    )

body_le : (rows : List (List Inlines)) → debt_rows (body rows) ≤ debt_rows rows
body_le [] = omega arith
body_le (cells ∷ rows) = go (nat_lt 0 (length cells)) (body_le rows)
  where
    go : (t : Bool) → debt_rows (body rows) ≤ debt_rows rows
        → debt_rows (if t then cells ∷ body rows else body rows) ≤ debt_cells cells + debt_rows rows
    go true i = omega (arith, i)
    go false i = omega (arith, i)

in_le : (al : List Alignment) (t : Bool) (lines : List (List Inlines))
    → debt_block (table_in (width lines) al t lines) ≤ debt_rows lines
in_le al true [] = omega (arith, padded_le (width []) [])
in_le al true (first ∷ rest) = omega (arith, padded_le (width (first ∷ rest)) first, body_le rest)
in_le al false lines = omega (arith, padded_le (width lines) [], body_le lines)

pub of_cost : (f : Bool) (al : List Alignment) (t : Bool) (lines : List (List Inlines))
    → Costs f (block_part (table_of al t lines)) (debt_rows lines)
of_cost f al t lines = go (width lines == 0)
  where
    go : (x : Bool)
        → Costs f (block_part (if x then None else Some (table_in (width lines) al t lines))) (debt_rows lines)
    go true = at_most f [] 0 (debt_rows lines) (omega arith) (nothing f)
    go false =
        at_most f (block_part (Some (table_in (width lines) al t lines)))
        (debt_block (table_in (width lines) al t lines)) (debt_rows lines) (in_le al t lines)
        (block_cost f (table_in (width lines) al t lines))

rows_cost : (f : Bool) (rows : List grids.Row) → Costs f (block_part (table_of_rows rows)) (in_all rows)
rows_cost f [] = nothing f
rows_cost f (first ∷ rows) =
    let g = grid (first ∷ rows) in
    at_most f (block_part (table_of_rows (first ∷ rows))) (debt_rows (map trimmed_row g)) (in_all (first ∷ rows))
    (omega (arith, trimmed_rows g, grid_le (first ∷ rows)))
    (of_cost f (alignments_of first) (begins_with_header first) (map trimmed_row g))

filtered_le : (rows : List grids.Row) → in_all (filled_rows rows) ≤ in_all rows
filtered_le [] = omega arith
filtered_le (row ∷ rows) = go (nat_lt 0 (length row.cells)) (filtered_le rows)
  where
    go : (t : Bool) → in_all (filled_rows rows) ≤ in_all rows
        → in_all (if t then row ∷ filled_rows rows else filled_rows rows) ≤ in_cells row.cells + in_all rows
    go true i = omega (arith, i)
    go false i = omega (arith, i)

-- ---- rows

-- what is in a cell
pub record Inner (n : Node) : Type 0 where
  pub cost : (c : Context) → Costs c.is_flat (n.content c) (due (rep c.around) n.tree)

abbrev pub AllInner : List Node → Type 0
AllInner [] = Unit {0}
AllInner (n ∷ nodes) = Inner n × AllInner nodes

abbrev pub RowsDue : List Row → Type 0
RowsDue [] = Unit {0}
RowsDue (row ∷ rows) = AllInner row.cells × RowsDue rows

abbrev pub rows_dues : ℕ → List Row → ℕ
rows_dues k [] = 0
rows_dues k (row ∷ rows) = dues k row.cells + rows_dues k rows

pub both_due : (a b : List Row) → RowsDue a → RowsDue b → RowsDue (a ++ b)
both_due [] b f g = g
both_due (row ∷ a) b f g = (f.0, both_due a b f.1 g)

pub dues_append : (k : ℕ) (a b : List Row) → rows_dues k (a ++ b) ≡ rows_dues k a + rows_dues k b
dues_append k [] b = omega arith
dues_append k (row ∷ a) b = omega (arith, dues_append k a b)

pub cells_due : (nodes : List Node) → AllDue nodes → AllInner (filter is_cell nodes)
cells_due [] f = tt
cells_due (n ∷ nodes) f = go (is_cell n) refl (cells_due nodes f.1)
  where
    go : (t : Bool) → is_cell n ≡ t → AllInner (filter is_cell nodes)
        → AllInner (if t then n ∷ filter is_cell nodes else filter is_cell nodes)
    go true e i =
        (record { cost = λ c. opened n c f.0 (open_by roles.is_cell cell_open n.tree e) }, i)
    go false e i = i

pub cells_dues : (k : ℕ) (nodes : List Node) → dues k (filter is_cell nodes) ≤ dues k nodes
cells_dues k [] = omega arith
cells_dues k (n ∷ nodes) = go (is_cell n) (cells_dues k nodes)
  where
    go : (t : Bool) → dues k (filter is_cell nodes) ≤ dues k nodes
        → dues k (if t then n ∷ filter is_cell nodes else filter is_cell nodes) ≤ due k n.tree + dues k nodes
    go true i = omega (arith, i)
    go false i = omega (arith, i)

row_cells : (cells : List Node) (c : Context) → AllInner cells
    → in_cells (map (cell_of c) cells) ≤ dues (rep c.around) cells
row_cells [] c f = omega arith
row_cells (n ∷ cells) c f =
    omega (
      arith,
      row_cells cells c f.1,
      line_cost (n.content (in_one_line c)) (due (rep c.around) n.tree) (f.0.cost (in_one_line c)),
    )

all_cells : (rows : List Row) (c : Context) → RowsDue rows
    → in_all (map (row_of c) rows) ≤ rows_dues (rep c.around) rows
all_cells [] c f = omega arith
all_cells (row ∷ rows) c f = omega (arith, all_cells rows c f.1, row_cells row.cells c f.0)

block_table : (rows : List Row) (c : Context) → RowsDue rows
    → Costs c.is_flat (block_part (table_block rows c)) (rows_dues (rep c.around) rows)
block_table rows c f =
    let r = map (row_of c) rows in
    at_most c.is_flat (block_part (table_block rows c)) (in_all (filled_rows r)) (rows_dues (rep c.around) rows)
    (omega (arith, filtered_le r, all_cells rows c f)) (rows_cost c.is_flat (filled_rows r))

-- ---- in one line

-- the cells of a row with a space after each
row_flat : (cells : List Node) (c : Context) → AllInner cells
    → Costs c.is_flat (flat_map (cell_in_one_line c) cells) (dues (rep c.around) cells)
row_flat [] c f = nothing c.is_flat
row_flat (n ∷ cells) c f =
    let k = due (rep c.around) n.tree in
    let j = dues (rep c.around) cells in
    let gap = run (space ∷ []) c.around false ∷ [] in
    at_most c.is_flat ((n.content c ++ gap) ++ flat_map (cell_in_one_line c) cells) (k + 0 + j) (k + j) (omega arith)
    (both c.is_flat (n.content c ++ gap) (flat_map (cell_in_one_line c) cells) (k + 0) j
    (both c.is_flat (n.content c) gap k 0 (f.0.cost c) (blank_cost c.is_flat (space ∷ []) c.around false space_blank))
    (row_flat cells c f.1))

rows_flat : (rows : List Row) (c : Context) → RowsDue rows
    → Costs c.is_flat (rows_in_one_line rows c) (rows_dues (rep c.around) rows)
rows_flat [] c f = nothing c.is_flat
rows_flat (row ∷ rows) c f =
    let k = dues (rep c.around) row.cells in
    let j = rows_dues (rep c.around) rows in
    let cells = flat_map (cell_in_one_line c) row.cells in
    at_most c.is_flat ((cells ++ edge ∷ []) ++ rows_in_one_line rows c) (k + 0 + j) (k + j) (omega arith)
    (both c.is_flat (cells ++ edge ∷ []) (rows_in_one_line rows c) (k + 0) j
    (both c.is_flat cells (edge ∷ []) k 0 (row_flat row.cells c f.0) (edge_cost c.is_flat)) (rows_flat rows c f.1))

-- ---- captions

abbrev pub captions_dues : ℕ → List Node → ℕ
captions_dues k [] = 0
captions_dues k (n ∷ nodes) = (if has roles.is_caption n.tree then due k n.tree else 0) + captions_dues k nodes

captions_apart : (nodes : List Node) (c : Context) → AllDue nodes
    → Costs c.is_flat (captions_among nodes c) (captions_dues (rep c.around) nodes)
captions_apart [] c f = nothing c.is_flat
captions_apart (n ∷ nodes) c f = go (has roles.is_caption n.tree) refl (captions_apart nodes c f.1)
  where
    k : ℕ
    k = due (rep c.around) n.tree

    j : ℕ
    j = captions_dues (rep c.around) nodes

    go : (t : Bool) → has roles.is_caption n.tree ≡ t → Costs c.is_flat (captions_among nodes c) j
        → Costs c.is_flat ((if t then apart (n.content c) else []) ++ captions_among nodes c)
        ((if t then k else 0) + j)
    go true e i =
        both c.is_flat (apart (n.content c)) (captions_among nodes c) k j
        (apart_cost c.is_flat (n.content c) k (opened n c f.0 (open_by roles.is_caption caption_open n.tree e))) i
    go false e i = at_most c.is_flat (captions_among nodes c) j (0 + j) (omega arith) i

captions_flat : (nodes : List Node) (c : Context) → AllDue nodes
    → Costs c.is_flat (captions_in_one_line nodes c) (captions_dues (rep c.around) nodes)
captions_flat [] c f = nothing c.is_flat
captions_flat (n ∷ nodes) c f = go (has roles.is_caption n.tree) refl (captions_flat nodes c f.1)
  where
    k : ℕ
    k = due (rep c.around) n.tree

    j : ℕ
    j = captions_dues (rep c.around) nodes

    go : (t : Bool) → has roles.is_caption n.tree ≡ t → Costs c.is_flat (captions_in_one_line nodes c) j
        → Costs c.is_flat ((if t then n.content c ++ edge ∷ [] else []) ++ captions_in_one_line nodes c)
        ((if t then k else 0) + j)
    go true e i =
        at_most c.is_flat ((n.content c ++ edge ∷ []) ++ captions_in_one_line nodes c) (k + 0 + j) (k + j)
        (omega arith)
        (both c.is_flat (n.content c ++ edge ∷ []) (captions_in_one_line nodes c) (k + 0) j
        (both c.is_flat (n.content c) (edge ∷ []) k 0
        (opened n c f.0 (open_by roles.is_caption caption_open n.tree e)) (edge_cost c.is_flat)) i)
    go false e i = at_most c.is_flat (captions_in_one_line nodes c) j (0 + j) (omega arith) i

captions_cut : (m k : ℕ) (nodes : List Node)
    → captions_dues k (take m nodes) + captions_dues k (drop m nodes) ≡ captions_dues k nodes
captions_cut zero k nodes = omega arith
captions_cut (suc m) k [] = omega arith
captions_cut (suc m) k (n ∷ nodes) = omega (arith, captions_cut m k nodes)

taken_due : (k : ℕ) (nodes : List Node) → AllDue nodes → AllDue (take k nodes)
taken_due zero nodes f = tt
taken_due (suc k) [] f = tt
taken_due (suc k) (n ∷ nodes) f = (f.0, taken_due k nodes f.1)

dropped_due : (k : ℕ) (nodes : List Node) → AllDue nodes → AllDue (drop k nodes)
dropped_due zero nodes f = f
dropped_due (suc k) [] f = tt
dropped_due (suc k) (n ∷ nodes) f = dropped_due k nodes f.1

-- ---- the table

pub table_cost : (trees : List Simple) (nodes : List Node) (rows : List Row) (c : Context) (k : ℕ) → AllDue nodes
    → RowsDue rows → dues (rep c.around) nodes ≤ k
    → captions_dues (rep c.around) nodes + rows_dues (rep c.around) rows ≤ k
    → Costs c.is_flat (table_parts trees nodes rows c) k
table_cost trees nodes rows c k f g v l = go (is_grid trees rows) c.is_flat refl
  where
    n : ℕ
    n = before_row nodes

    q : ℕ
    q = rep c.around

    x : ℕ
    x = captions_dues q (take n nodes)

    y : ℕ
    y = captions_dues q (drop n nodes)

    z : ℕ
    z = rows_dues q rows

    fits : x + z + y ≤ k
    fits = omega (arith, captions_cut n q nodes, l)

    flat : Costs c.is_flat (grid_in_one_line nodes rows c) k
    flat =
        let a = captions_in_one_line (take n nodes) c in
        let r = rows_in_one_line rows c in
        let b = captions_in_one_line (drop n nodes) c in
        at_most c.is_flat ((a ++ r) ++ b) (x + z + y) k fits
        (both c.is_flat (a ++ r) b (x + z) y
        (both c.is_flat a r x z (captions_flat (take n nodes) c (taken_due n nodes f)) (rows_flat rows c g))
        (captions_flat (drop n nodes) c (dropped_due n nodes f)))

    inside : Costs c.is_flat (grid_inside nodes rows c) k
    inside =
        let a = captions_among (take n nodes) c in
        let r = block_part (table_block rows c) in
        let b = captions_among (drop n nodes) c in
        at_most c.is_flat (((a ++ (edge ∷ r)) ++ (edge ∷ b)) ++ (edge ∷ [])) (x + z + y + 0) k
        (omega (arith, fits))
        (both c.is_flat ((a ++ (edge ∷ r)) ++ (edge ∷ b)) (edge ∷ []) (x + z + y) 0
        (both c.is_flat (a ++ (edge ∷ r)) (edge ∷ b) (x + z) y
        (both c.is_flat a (edge ∷ r) x z (captions_apart (take n nodes) c (taken_due n nodes f))
        (edge_before c.is_flat r z (block_table rows c g)))
        (edge_before c.is_flat b y (captions_apart (drop n nodes) c (dropped_due n nodes f))))
        (edge_cost c.is_flat))

    go : (t u : Bool) → c.is_flat ≡ u
        → Costs c.is_flat
        (if t then edge ∷ (if u then grid_in_one_line nodes rows c else grid_inside nodes rows c)
        else apart (flow_all nodes c)) k
    go true true e =
        edge_before c.is_flat (grid_in_one_line nodes rows c) k flat
    go true false e = edge_before c.is_flat (grid_inside nodes rows c) k inside
    go false u e =
        at_most c.is_flat (apart (flow_all nodes c)) (dues q nodes) k v
        (apart_cost c.is_flat (flow_all nodes c) (dues q nodes) (flow_cost nodes c f))

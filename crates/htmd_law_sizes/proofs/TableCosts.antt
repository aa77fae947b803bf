-- How much a table gives.
use Rattle.std.proofs.Common.{◌≡◌, ℕ, zero, suc, ◌+◌, ◌*◌, ◌≤◌, Bool, true, false, List, [], ◌∷◌, ◌++◌}
use Rattle.std.proofs.Common.{length, map, take, drop, arith}
use Rattle.std.specs.Prelude.{filter, if◌then◌else◌}
use Rattle.std.specs.List.{flat_map}
use Rattle.htmd_shown.specs.Kinds.{has}
use Rattle.htmd_shown.specs.Roles as roles
use Rattle.htmd_shown.specs.SimpleTrees.{Simple}
use Rattle.htmd_flow.specs.Contexts.{Context, in_one_line, apart}
use Rattle.htmd_flow.specs.Flows.{Node, Row, flow_all, is_grid, is_cell, captions_in_one_line}
use Rattle.htmd_flow.specs.Flows.{cell_in_one_line, rows_in_one_line, before_row, grid_in_one_line}
use Rattle.htmd_flow.specs.Flows.{captions_among, cell_of, row_of, filled_rows, block_part, table_block}
use Rattle.htmd_flow.specs.Flows.{grid_inside, table_parts}
use Rattle.htmd_flow.specs.Parts.{edge}
use Rattle.htmd_law_sizes.specs.SimpleSizes.{size_of_simple}
use Rattle.htmd_law_sizes.proofs.ContextRooms.{Within, around_le}
use Rattle.htmd_law_sizes.proofs.GridCosts.{in_cells, in_all, cell_count, table_cost, filled_le}
use Rattle.htmd_law_sizes.proofs.NodeCosts.{AllFit, worth, flow_le}
use Rattle.htmd_law_sizes.proofs.PartCosts.{costs, costs_append, line_cost}

-- ---- rows

abbrev pub RowsFit : List Row → Type 0
RowsFit [] = Unit {0}
RowsFit (row ∷ rows) = AllFit row.cells × RowsFit rows

-- 400 more for each row
abbrev pub rows_worth : List Row → ℕ
rows_worth [] = 0
rows_worth (row ∷ rows) = 400 + worth row.cells + rows_worth rows

pub both_fit : (a b : List Row) → RowsFit a → RowsFit b → RowsFit (a ++ b)
both_fit [] b f g = g
both_fit (row ∷ a) b f g = (f.0, both_fit a b f.1 g)

pub worth_append : (a b : List Row) → rows_worth (a ++ b) ≡ rows_worth a + rows_worth b
worth_append [] b = omega arith
worth_append (row ∷ a) b = omega (arith, worth_append a b)

pub cells_fit : (nodes : List Node) → AllFit nodes
    → AllFit (filter is_cell nodes) × (worth (filter is_cell nodes) ≤ worth nodes)
cells_fit [] f = (tt, omega arith)
cells_fit (n ∷ nodes) f = go (is_cell n) (cells_fit nodes f.1)
  where
    go : (t : Bool)
        → AllFit (filter is_cell nodes) × (worth (filter is_cell nodes) ≤ worth nodes)
        → AllFit (if t then n ∷ filter is_cell nodes else filter is_cell nodes)
        × (worth (if t then n ∷ filter is_cell nodes else filter is_cell nodes)
        ≤ 400 * size_of_simple n.tree + worth nodes)
    go true i = ((f.0, i.0), omega (arith, i.1))
    go false i = (i.0, omega (arith, i.1))

-- ---- in one line

-- the cells of a row with a space after each
row_flat : (cells : List Node) (c : Context) → AllFit cells → Within c.around
    → costs (flat_map (cell_in_one_line c) cells) ≤ worth cells
row_flat [] c f w = omega arith
row_flat (n ∷ cells) c f w =
    simp costs_append
    (omega (arith, f.0.inner c w, row_flat cells c f.1 w, around_le c.around w))

rows_flat : (rows : List Row) (c : Context) → RowsFit rows → Within c.around
    → costs (rows_in_one_line rows c) ≤ rows_worth rows
rows_flat [] c f w = omega arith
rows_flat (row ∷ rows) c f w =
    simp costs_append
    (omega (arith, row_flat row.cells c f.0 w, rows_flat rows c f.1 w))

-- ---- captions

-- what the captions among nodes cost at most, in any context
abbrev pub captions_worth : List Node → ℕ
captions_worth [] = 0
captions_worth (n ∷ nodes) =
    (if has roles.is_caption n.tree then 400 * size_of_simple n.tree else 0) + captions_worth nodes

captions_apart : (nodes : List Node) (c : Context) → AllFit nodes → Within c.around
    → costs (captions_among nodes c) ≤ captions_worth nodes
captions_apart [] c f w = omega arith
captions_apart (n ∷ nodes) c f w = go (has roles.is_caption n.tree) (captions_apart nodes c f.1 w)
  where
    go : (t : Bool) → costs (captions_among nodes c) ≤ captions_worth nodes
        → costs ((if t then apart (n.content c) else []) ++ captions_among nodes c)
        ≤ (if t then 400 * size_of_simple n.tree else 0) + captions_worth nodes
    go true i = simp costs_append (omega (arith, f.0.inner c w, i))
    go false i = omega (arith, i)

captions_flat : (nodes : List Node) (c : Context) → AllFit nodes → Within c.around
    → costs (captions_in_one_line nodes c) ≤ captions_worth nodes
captions_flat [] c f w = omega arith
captions_flat (n ∷ nodes) c f w = go (has roles.is_caption n.tree) (captions_flat nodes c f.1 w)
  where
    go : (t : Bool) → costs (captions_in_one_line nodes c) ≤ captions_worth nodes
        → costs ((if t then n.content c ++ edge ∷ [] else []) ++ captions_in_one_line nodes c)
        ≤ (if t then 400 * size_of_simple n.tree else 0) + captions_worth nodes
    go true i = simp costs_append (omega (arith, f.0.inner c w, i))
    go false i = omega (arith, i)

-- those before the first row and those behind it
captions_cut : (k : ℕ) (nodes : List Node)
    → captions_worth (take k nodes) + captions_worth (drop k nodes) ≡ captions_worth nodes
captions_cut zero nodes = omega arith
captions_cut (suc k) [] = omega arith
captions_cut (suc k) (n ∷ nodes) = omega (arith, captions_cut k nodes)

taken_fit : (k : ℕ) (nodes : List Node) → AllFit nodes → AllFit (take k nodes)
taken_fit zero nodes f = tt
taken_fit (suc k) [] f = tt
taken_fit (suc k) (n ∷ nodes) f = (f.0, taken_fit k nodes f.1)

dropped_fit : (k : ℕ) (nodes : List Node) → AllFit nodes → AllFit (drop k nodes)
dropped_fit zero nodes f = f
dropped_fit (suc k) [] f = tt
dropped_fit (suc k) (n ∷ nodes) f = dropped_fit k nodes f.1

-- ---- the grid

row_cells : (cells : List Node) (c : Context) → AllFit cells → Within c.around
    → in_cells (map (cell_of c) cells) + 400 * length (map (cell_of c) cells) ≤ worth cells
row_cells [] c f w = omega arith
row_cells (n ∷ cells) c f w =
    omega (
      arith,
      row_cells cells c f.1 w,
      line_cost (n.content (in_one_line c)),
      f.0.inner (in_one_line c) w,
    )

all_cells : (rows : List Row) (c : Context) → RowsFit rows → Within c.around
    → in_all (map (row_of c) rows) + 400 * cell_count (map (row_of c) rows) ≤ rows_worth rows
all_cells [] c f w = omega arith
all_cells (row ∷ rows) c f w = omega (arith, all_cells rows c f.1 w, row_cells row.cells c f.0 w)

block_cost : (rows : List Row) (c : Context) → RowsFit rows → Within c.around
    → costs (block_part (table_block rows c)) ≤ 195 + rows_worth rows
block_cost rows c f w =
    let r = map (row_of c) rows in
    let i = filled_le r in
    omega (arith, table_cost (filled_rows r), i.0, i.1, all_cells rows c f w)

pub table_le : (trees : List Simple) (nodes : List Node) (rows : List Row) (c : Context) (k : ℕ) → AllFit nodes
    → RowsFit rows → worth nodes ≤ k → captions_worth nodes + rows_worth rows ≤ k → Within c.around
    → costs (table_parts trees nodes rows c) ≤ 199 + k
table_le trees nodes rows c k f g v l w = go (is_grid trees rows) c.is_flat
  where
    n : ℕ
    n = before_row nodes

    go : (t u : Bool)
        → costs
        (if t then edge ∷ (if u then grid_in_one_line nodes rows c else grid_inside nodes rows c)
        else apart (flow_all nodes c))
        ≤ 199 + k
    go true true =
        simp costs_append
        (omega (
          arith,
          captions_flat (take n nodes) c (taken_fit n nodes f) w,
          captions_flat (drop n nodes) c (dropped_fit n nodes f) w,
          captions_cut n nodes,
          rows_flat rows c g w,
          l,
        ))
    go true false =
        simp costs_append
        (omega (
          arith,
          captions_apart (take n nodes) c (taken_fit n nodes f) w,
          captions_apart (drop n nodes) c (dropped_fit n nodes f) w,
          captions_cut n nodes,
          block_cost rows c g w,
          l,
        ))
    go false u = simp costs_append (omega (arith, flow_le nodes c f w, v))

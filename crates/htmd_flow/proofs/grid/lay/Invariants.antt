use Rattle.std.proofs.Common.{◌≡◌, ◌≤◌, ◌++◌, length, map, drop, take}
use Rattle.htmd_flow.specs.GridViews.{cell_of}
use Rattle.htmd_flow.specs.Grids as spec
use Rattle.htmd_flow.proofs.grid.lay.Given as goal

abbrev pub invariant-loop-cell : goal.invariant-loop-cell
invariant-loop-cell l = record {
  within : l.column ≤ length l.taken.items;
  begins : l.begins.items
      ++ (spec.laid l.row (drop l.column l.taken.items) (map cell_of (drop l.cell-index l.cells))).begins
      ≡ (spec.laid l.row l.initial.taken.items (map cell_of l.cells)).begins;
  taken : take l.column l.taken.items
      ++ (spec.laid l.row (drop l.column l.taken.items) (map cell_of (drop l.cell-index l.cells))).taken
      ≡ (spec.laid l.row l.initial.taken.items (map cell_of l.cells)).taken;
}

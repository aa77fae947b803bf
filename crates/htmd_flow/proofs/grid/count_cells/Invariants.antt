use Rattle.std.proofs.Common.{◌≡◌, ◌≤◌, map, take}
use Rattle.htmd_flow.specs.GridViews.{row_of}
use Rattle.htmd_flow.specs.Grids as spec
use Rattle.htmd_flow.proofs.grid.count_cells.Given as goal

abbrev pub invariant-loop-row : goal.invariant-loop-row
invariant-loop-row l = record {
  value : l.count ≡ spec.count_of (map row_of (take l.row-index l.rows));
  bound : l.count ≤ spec.most_counted;
}

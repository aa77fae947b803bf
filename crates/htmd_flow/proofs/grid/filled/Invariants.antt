use Rattle.std.proofs.Common.{◌≡◌, ◌++◌, map, drop}
use Rattle.std.specs.Vec.Iter.{into_iter_items}
use Rattle.htmd_flow.specs.GridViews.{cell_of, line_of}
use Rattle.htmd_flow.specs.Grids as spec
use Rattle.htmd_flow.proofs.grid.filled.Given as goal

abbrev pub invariant-loop-is_cell : goal.invariant-loop-is_cell
invariant-loop-is_cell l = line_of l.line.items
    ++ spec.filled (drop l.is_cell-index l.begins) (map cell_of (into_iter_items l.cells))
    ≡ spec.filled l.begins (map cell_of (into_iter_items l.initial.cells))

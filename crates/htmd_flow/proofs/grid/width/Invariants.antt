use Rattle.std.proofs.Common.{◌≡◌, take}
use Rattle.htmd_flow.specs.GridViews.{lines_of}
use Rattle.htmd_flow.specs.Grids as spec
use Rattle.htmd_flow.proofs.grid.width.Given as goal

abbrev pub invariant-loop-cells : goal.invariant-loop-cells
invariant-loop-cells l = l.width ≡ spec.width (lines_of (take l.cells-index l.lines))

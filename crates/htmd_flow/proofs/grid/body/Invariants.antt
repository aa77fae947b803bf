use Rattle.std.proofs.Common.{◌≡◌}
use Rattle.htmd_flow.specs.GridViews.{lines_of}
use Rattle.htmd_flow.specs.Grids as spec
use Rattle.htmd_flow.proofs.grid.body.Given as goal

abbrev pub invariant-loop-cells : goal.invariant-loop-cells
invariant-loop-cells l = lines_of l.rows.items ≡ spec.body (lines_of l.yielded)

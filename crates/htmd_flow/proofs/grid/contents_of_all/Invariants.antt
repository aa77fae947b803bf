use Rattle.std.proofs.Common.{◌≡◌, map}
use Rattle.htmd_flow.specs.GridViews.{row_of, lines_of}
use Rattle.htmd_flow.specs.Grids as spec
use Rattle.htmd_flow.proofs.grid.contents_of_all.Given as goal

abbrev pub invariant-loop-row : goal.invariant-loop-row
invariant-loop-row l = lines_of l.lines.items ≡ map spec.contents_of (map row_of l.yielded)

use Rattle.std.proofs.Common.{◌≡◌, map}
use Rattle.htmd_flow.specs.GridViews.{cell_of, line_of}
use Rattle.htmd_flow.specs.Grids as spec
use Rattle.htmd_flow.proofs.grid.contents.Given as goal

abbrev pub invariant-loop-cell : goal.invariant-loop-cell
invariant-loop-cell l = line_of l.line.items ≡ map (λ (c : spec.Cell). c.content) (map cell_of l.yielded)

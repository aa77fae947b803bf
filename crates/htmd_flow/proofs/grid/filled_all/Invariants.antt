use Rattle.std.proofs.Common.{◌≡◌, map}
use Rattle.htmd_flow.specs.GridViews.{cell_of, lines_of}
use Rattle.htmd_flow.specs.Grids as spec
use Rattle.htmd_flow.proofs.grid.filled_all.Given as goal

abbrev pub invariant-loop-row : goal.invariant-loop-row
invariant-loop-row l =
    lines_of l.lines.items ≡ map (λ p. spec.filled p.1.items (map cell_of p.0.cells.items)) l.yielded

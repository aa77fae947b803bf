use Rattle.std.proofs.Common.{◌≡◌, ◌++◌, take, drop, map}
use Rattle.htmd_flow.specs.GridViews.{lines_of}
use Rattle.htmd_flow.specs.Grids.{trimmed_row}
use Rattle.htmd_flow.proofs.grid.trim_all.Given as goal

abbrev pub invariant-loop-cells : goal.invariant-loop-cells
invariant-loop-cells l =
    lines_of l.lines ≡ map trimmed_row (lines_of (take l.cells-index l.initial.lines))
    ++ lines_of (drop l.cells-index l.initial.lines)

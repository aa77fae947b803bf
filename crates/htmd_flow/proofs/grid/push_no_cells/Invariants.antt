use Rattle.std.proofs.Common.{◌≡◌, ◌++◌, replicate, false}
use Rattle.htmd_flow.proofs.grid.push_no_cells.Given as goal

abbrev pub invariant-loop-column : goal.invariant-loop-column
invariant-loop-column l = l.begins.items ≡ l.initial.begins.items ++ replicate l._column false

use Rattle.std.proofs.Common.{◌≡◌, ◌++◌, replicate}
use Rattle.htmd_flow.proofs.grid.take_columns.Given as goal

abbrev pub invariant-loop-column : goal.invariant-loop-column
invariant-loop-column l = l.taken.items ≡ l.initial.taken.items ++ replicate l._column l.until

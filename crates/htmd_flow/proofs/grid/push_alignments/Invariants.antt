use Rattle.std.proofs.Common.{◌≡◌, ◌++◌, replicate}
use Rattle.htmd_flow.proofs.grid.push_alignments.Given as goal

abbrev pub invariant-loop-column : goal.invariant-loop-column
invariant-loop-column l = l.alignments.items ≡ l.fn.alignments.items ++ replicate l._column l.alignment

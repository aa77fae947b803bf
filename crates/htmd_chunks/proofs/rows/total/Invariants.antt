-- The sum of the widths so far.
use Rattle.std.proofs.Common.{◌≡◌, ◌+◌, drop, sum}
use Rattle.htmd_chunks.proofs.rows.total.Given as goal

abbrev pub invariant-loop-width : goal.invariant-loop-width
invariant-loop-width l = l.total + sum (drop l.width-index l.widths) ≡ sum l.widths

-- With the columns to come, the columns so far are all of them.
use Rattle.std.proofs.Common.{◌≡◌, ◌++◌, drop}
use Rattle.htmd_chunks.specs.RowViews.{widened}
use Rattle.htmd_chunks.proofs.rows.widened.Given as goal

abbrev pub invariant-loop-i : goal.invariant-loop-i
invariant-loop-i l = l.wide.items ++ widened (drop l.i l.columns) (drop l.i l.widths) ≡ widened l.columns l.widths

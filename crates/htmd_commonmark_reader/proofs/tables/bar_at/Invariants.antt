-- The bytes before the bar, and those that are left of them.
use Rattle.std.proofs.Common.{◌≡◌, ◌+◌, length, drop}
use Rattle.htmd_commonmark_reader.specs.Rows.{until_bar}
use Rattle.htmd_commonmark_reader.proofs.tables.bar_at.Given as goal

abbrev pub invariant-loop-at : goal.invariant-loop-at
invariant-loop-at l = l.at + length (until_bar l.before (drop l.at l.bytes)) ≡ length (until_bar 0 l.bytes)

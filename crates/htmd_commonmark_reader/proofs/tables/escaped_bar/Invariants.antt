-- Nothing changes so far.
use Rattle.std.proofs.Common.{◌≡◌, ◌++◌, take, drop}
use Rattle.htmd_commonmark_reading.specs.Tables.{with_bars}
use Rattle.htmd_commonmark_reader.proofs.tables.escaped_bar.Given as goal

abbrev pub invariant-loop-at : goal.invariant-loop-at
invariant-loop-at l = take l.at l.bytes ++ with_bars (drop l.at l.bytes) ≡ with_bars l.bytes

-- What is held so far, and the rest.
use Rattle.std.proofs.Common.{◌≡◌, ◌++◌, length}
use Rattle.std.specs.String.{string_bytes}
use Rattle.htmd_commonmark_reading.specs.Tables.{with_bars}
use Rattle.htmd_commonmark_reader.proofs.tables.with_bars.Given as goal
use denote.Shadow.{shadow}
use denote.Text.{Utf8}

abbrev pub invariant-loop-at : goal.invariant-loop-at
invariant-loop-at l = record {
  text : shadow (Utf8 l.rest);
  reads : string_bytes l.held ++ with_bars l.rest ≡ with_bars l.text;
}

abbrev pub decreases-loop-at : goal.decreases-loop-at
decreases-loop-at l = length l.rest

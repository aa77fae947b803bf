-- What is whole so far, and the rest.
use Rattle.std.proofs.Common.{◌≡◌, ◌++◌, length}
use Rattle.std.specs.String.{string_bytes}
use Rattle.htmd_commonmark_reading.specs.Lines.{without_null}
use Rattle.htmd_commonmark_reader.proofs.lines.without_null.Given as goal
use denote.Shadow.{shadow}
use denote.Text.{Utf8}

abbrev pub invariant-loop-part : goal.invariant-loop-part
invariant-loop-part l = record {
  text : shadow (Utf8 l.rest);
  reads : string_bytes l.whole ++ without_null l.rest ≡ without_null l.text;
}

abbrev pub decreases-loop-part : goal.decreases-loop-part
decreases-loop-part l = length l.rest

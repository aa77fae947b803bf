-- What is held so far, and the rest.
use Rattle.std.proofs.Common.{◌≡◌, ◌++◌, length}
use Rattle.std.specs.String.{string_bytes}
use Rattle.htmd_commonmark_reading.specs.LinkDefinitions.{single_spaced}
use Rattle.htmd_commonmark_reader.proofs.labels.single_spaced.Given as goal
use denote.Shadow.{shadow}
use denote.Text.{Utf8}

abbrev pub invariant-loop-rest : goal.invariant-loop-rest
invariant-loop-rest l = record {
  text : shadow (Utf8 l.rest);
  reads : string_bytes l.held ++ single_spaced l.rest ≡ single_spaced l.text;
}

abbrev pub decreases-loop-rest : goal.decreases-loop-rest
decreases-loop-rest l = length l.rest

-- What was found so far, and what the rest begins with.
use Rattle.std.proofs.Common.{◌≡◌, ◌++◌, length, map}
use Rattle.htmd_commonmark_reading.specs.LinkDefinitions.{definitions}
use Rattle.htmd_commonmark_reader.specs.Definitions.{held_of, encoded}
use Rattle.htmd_commonmark_reader.proofs.definitions.definitions.Given as goal
use denote.Shadow.{shadow}
use denote.Text.{Utf8}

abbrev pub invariant-loop-raw : goal.invariant-loop-raw
invariant-loop-raw l = record {
  text : shadow (Utf8 l.rest);
  rest : (definitions l.rest).rest ≡ (definitions l.text).rest;
  found : map held_of l.found.items ++ map encoded ((definitions l.rest).found)
      ≡ map held_of l.fn.found.items ++ map encoded ((definitions l.text).found);
}

abbrev pub decreases-loop-raw : goal.decreases-loop-raw
decreases-loop-raw l = length l.rest

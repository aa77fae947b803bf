-- What follows a place is known.
use Rattle.std.proofs.Common.{◌≡◌, ◌≤◌, drop, length}
use Rattle.htmd_commonmark_reader.specs.Destinations.{lefts_of}
use Rattle.htmd_commonmark_reader.proofs.destinations.lefts.Given as goal

abbrev pub invariant-loop-at : goal.invariant-loop-at
invariant-loop-at l = record {
  within : l.at ≤ length l.text;
  known : l.lefts.items ≡ lefts_of (drop l.at l.text);
}

abbrev pub decreases-loop-at : goal.decreases-loop-at
decreases-loop-at l = l.at

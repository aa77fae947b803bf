-- The digits so far, and what the rest makes of them.
use Rattle.std.proofs.Common.{◌≡◌, ◌<◌, drop}
use Rattle.htmd_lexical.specs.Numbers.{number}
use Rattle.htmd_commonmark_reader.proofs.MarkersLemmas.{beyond}
use Rattle.htmd_commonmark_reader.proofs.markers.number_of.Given as goal

abbrev pub invariant-loop-digit : goal.invariant-loop-digit
invariant-loop-digit l = record {
  small : l.sum < beyond l.digit-index;
  same : number 10 l.sum (drop l.digit-index l.digits) ≡ number 10 0 l.digits;
}

use Rattle.std.proofs.Common.{◌≡◌, length}
use Rattle.htmd_shown.specs.Attributes.{words}
use Rattle.htmd_shown.specs.Images.{candidate_among, first_candidate}
use Rattle.htmd_shown.proofs.image_source.first_candidate.Given as goal
use denote.Shadow.{shadow}
use denote.Text.{Utf8}

abbrev pub decreases-loop-found : goal.decreases-loop-found
decreases-loop-found l = length l.rest

-- the words to come decide
abbrev pub invariant-loop-found : goal.invariant-loop-found
invariant-loop-found l = record {
  is_text : shadow (Utf8 l.rest);
  words_left : candidate_among (words l.rest) ≡ first_candidate l.set;
}

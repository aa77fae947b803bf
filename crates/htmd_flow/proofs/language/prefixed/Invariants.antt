use Rattle.std.proofs.Common.{◌≡◌, length, map}
use Rattle.std.specs.Prelude.{flat_map}
use Rattle.htmd_lexical.specs.Attributes.{pairs_of}
use Rattle.htmd_shown.specs.Attributes.{words}
use Rattle.htmd_flow.specs.Languages as spec
use Rattle.htmd_flow.proofs.language.prefixed.Given as goal
use denote.Shadow.{shadow}
use denote.Text.{Utf8}

abbrev pub decreases-loop-found : goal.decreases-loop-found
decreases-loop-found l = length l.rest

abbrev pub invariant-loop-found : goal.invariant-loop-found
invariant-loop-found l = record {
  is_text : shadow (Utf8 l.rest);
  names : spec.first_name (flat_map (spec.after_beginning (map (λ b. b.now) l.beginnings)) (words l.rest))
      ≡ spec.first_name (spec.prefixed (map (λ b. b.now) l.beginnings) (pairs_of l.attrs));
}

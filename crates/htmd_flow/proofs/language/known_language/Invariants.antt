use Rattle.std.proofs.Common.{◌≡◌, length}
use Rattle.std.specs.Prelude.{filter}
use Rattle.htmd_shown.specs.Attributes.{words}
use Rattle.htmd_shown.specs.Roles.{is_among}
use Rattle.htmd_flow.specs.Languages as spec
use Rattle.htmd_flow.proofs.language.known_language.Given as goal
use denote.Shadow.{shadow}
use denote.Text.{Utf8}

abbrev pub decreases-loop-found : goal.decreases-loop-found
decreases-loop-found l = length l.rest

abbrev pub invariant-loop-found : goal.invariant-loop-found
invariant-loop-found l = record {
  is_text : shadow (Utf8 l.rest);
  names : spec.first_name (filter (is_among spec.languages) (words l.rest))
      ≡ spec.first_name (filter (is_among spec.languages) (words l.class));
}

use Rattle.std.proofs.Common.{◌≡◌, ◌++◌, length}
use Rattle.htmd_shown.specs.Attributes.{words}
use Rattle.htmd_flow.specs.Languages as spec
use Rattle.htmd_flow.specs.LanguageViews.{pending}
use Rattle.htmd_flow.proofs.language.named_by_highlighter.Given as goal
use denote.Shadow.{shadow}
use denote.Text.{Utf8}

abbrev pub decreases-loop-found : goal.decreases-loop-found
decreases-loop-found l = length l.rest

abbrev pub invariant-loop-found : goal.invariant-loop-found
invariant-loop-found l = record {
  is_text : shadow (Utf8 l.rest);
  names : spec.first_name (pending l.next (words l.rest) ++ spec.named_words (words l.rest))
      ≡ spec.first_name (spec.named_words (words l.class));
}

-- What the attributes so far denote, and the form of what is left.
use Rattle.std.proofs.Common.{◌≡◌, suc, length}
use Rattle.htmd_lexical.specs.Attributes.{pairs_of}
use Rattle.htmd_html5_tokens.specs.Tags.{form_within}
use Rattle.htmd_html5_tokens.specs.TagViews.{denoted, with_attributes}
use Rattle.htmd_html5_tokens.proofs.tags.denoted_form.Given as goal
use denote.Text.{Utf8}
use denote.Shadow.{shadow}

abbrev pub invariant-loop-attributes : goal.invariant-loop-attributes
invariant-loop-attributes l = record {
  is_text : shadow (Utf8 l.after);
  whole : with_attributes (pairs_of l.attributes.items) (denoted (form_within (suc (length l.after)) l.after))
      ≡ denoted (form_within (suc (length l.text)) l.text);
}

abbrev pub decreases-loop-attributes : goal.decreases-loop-attributes
decreases-loop-attributes l = length l.after

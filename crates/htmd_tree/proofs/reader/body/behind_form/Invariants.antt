-- What follows the tag is what follows it from here on.
use Rattle.std.proofs.Common.{◌≡◌, suc, length}
use Rattle.htmd_lexical.specs.TagReading.{form_within}
use Rattle.htmd_tree.specs.Bodies as spec
use Rattle.htmd_tree.proofs.reader.body.behind_form.Given as goal
use denote.Text.{Utf8}
use denote.Shadow.{shadow}

abbrev pub invariant-loop-rest : goal.invariant-loop-rest
invariant-loop-rest l = record {
  is_text : shadow (Utf8 l.behind);
  same : spec.behind_form (form_within (suc (length l.behind)) l.behind)
      ≡ spec.behind_form (form_within (suc (length l.text)) l.text);
}

abbrev pub decreases-loop-rest : goal.decreases-loop-rest
decreases-loop-rest l = length l.behind

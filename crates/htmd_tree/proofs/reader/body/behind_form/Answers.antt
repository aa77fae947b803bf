-- One attribute more.
use Rattle.std.proofs.Common.{◌∙◌, rules}
use Rattle.htmd_tree.proofs.TagPartsLemmas.{part_shorter}
use Rattle.htmd_tree.proofs.BodiesLemmas.{behind_attribute}
use Rattle.htmd_tree.proofs.reader.body.behind_form.Goals as goal

pub loop-rest-smaller : goal.loop-rest-smaller
loop-rest-smaller c = part_shorter _ _ _ _ c.in-Attribute.ensures

pub loop-rest-preserved : goal.loop-rest-preserved
loop-rest-preserved c = record {
  is_text = search rules;
  same = behind_attribute c.loop-rest.behind.now _ _ c.in-Attribute.rest.now c.in-Attribute.ensures
      ∙ c.loop-rest.invariant.same;
}

-- One more attribute.
use Rattle.htmd_encodings.proofs.AttributesLemmas.{part_shorter, tag_more}
use Rattle.htmd_encodings.proofs.attributes.tag.Goals as goal

pub loop-rest-smaller : goal.loop-rest-smaller
loop-rest-smaller c = part_shorter _ _ _ _ c.in-Attribute.ensures

pub loop-rest-preserved : goal.loop-rest-preserved
loop-rest-preserved c =
    tag_more c.loop-rest.after.now c.in-Attribute.name.now c.in-Attribute.value.now c.in-Attribute.rest.now
    c.loop-rest.attributes c.add.new.self _ c.in-Attribute.ensures c.add.ensures c.loop-rest.invariant

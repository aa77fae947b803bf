-- One more attribute, and all.
use Rattle.std.proofs.Common.{string_bytes}
use Rattle.htmd_document.specs.DocumentViews.{attribute_of}
use Rattle.htmd_document.specs.Tags.{attribute_text}
use Rattle.htmd_document.proofs.TagsLemmas.{attributes-turn, attributes-end}
use Rattle.htmd_document.proofs.tags.push_attributes.Goals as goal

pub loop-attribute-preserved : goal.loop-attribute-preserved
loop-attribute-preserved c =
    attributes-turn attribute_text attribute_of c.args.attributes.now c.loop-attribute.attribute-index
    c.attribute-item.result (string_bytes c.loop-attribute.out) (string_bytes c.push_attribute.new.out) _
    c.loop-attribute-test.true c.attribute-item.is c.in_ok-push_attribute.ensures c.loop-attribute.invariant

pub returns : goal.returns
returns c =
    attributes-end attribute_text attribute_of c.args.attributes.now c.loop-attribute.attribute-index
    (string_bytes c.loop-attribute.out) _ c.loop-attribute-test.false c.loop-attribute.invariant

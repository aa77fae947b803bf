-- What is left to prove of `inlines_values`.
use Rattle.serde_json.specs.View.{items_view}
use Rattle.htmd_document.proofs.MdastLemmas.{inlines-step}
use Rattle.htmd_document.proofs.mdast.+inlines.Goals as goal

pub inlines_values-loop-inline-preserved : goal.inlines_values-loop-inline-preserved
inlines_values-loop-inline-preserved t c =
    inlines-step c.args.inlines.now c.loop-inline.inline-index c.inline-item.result
    (items_view c.loop-inline.values.items) (items_view c.push_node.new.out.items)
    (items_view c.in_ok-children.children.items) c.loop-inline-test.true c.inline-item.is c.in_ok-children.ensures
    c.loop-inline.invariant c.in_ok-push_node.ensures

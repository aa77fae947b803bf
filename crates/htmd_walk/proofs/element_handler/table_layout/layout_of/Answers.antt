use Rattle.std.proofs.Common.{sym, ap, ◌∙◌, fold}
use Rattle.std.proofs.lemmas.List.{take_all}
use Rattle.htmd_walk.specs.TableLayouts.{with_child, empty_layout}
use Rattle.htmd_walk.proofs.ChildListsLemmas.{fold_next, child_within}
use Rattle.htmd_walk.proofs.element_handler.table_layout.layout_of.Goals as goal

pub push_child-requires : goal.push_child-requires
push_child-requires c =
    let ids = c.children-child-items in
    child_within c.args.tree.now c.args.table ids.result.now c.loop-child.child-index c.child-item.result
    ids.ensures.tree c.requires ids.ensures.value c.loop-child-test.true c.child-item.is

pub loop-child-preserved : goal.loop-child-preserved
loop-child-preserved c =
    c.in_ok-push_child.ensures
    ∙ ap (λ layout. with_child c.args.tree.now layout c.child-item.result) c.loop-child.invariant
    ∙ sym (fold_next (with_child c.args.tree.now) empty_layout c.children-child-items.result.now
    c.loop-child.child-index c.child-item.result c.loop-child-test.true c.child-item.is)

pub returns : goal.returns
returns c =
    c.loop-child.invariant
    ∙ ap (fold (with_child c.args.tree.now) empty_layout)
    (take_all c.loop-child.child-index c.children-child-items.result.now c.loop-child-test.false
    ∙ c.children-child-items.ensures.value)

use Rattle.std.proofs.Common.{sym, ap, ◌∙◌}
use Rattle.std.specs.List.{list_any}
use Rattle.htmd_walk.specs.Lists.{is_other_element}
use Rattle.htmd_walk.proofs.ChildListsLemmas.{any_here, none_more, none_all, child_within}
use Rattle.htmd_walk.proofs.element_handler.list.has_other_elements.Goals as goal

pub is_other_element-requires : goal.is_other_element-requires
is_other_element-requires c =
    let ids = c.children-child-items in
    child_within c.args.element.now.tree.now c.args.element.now.node ids.result.now c.loop-child.child-index
    c.child-item.result ids.ensures.tree c.args.element.now.within ids.ensures.value c.loop-child-test.true
    c.child-item.is

pub returns-then-is_other_element : goal.returns-then-is_other_element
returns-then-is_other_element c =
    let ids = c.children-child-items in
    let p = is_other_element c.args.element.now.tree.now in
    sym (ap (list_any p) (sym ids.ensures.value)
    ∙ any_here p ids.result.now c.loop-child.child-index c.child-item.result c.loop-child-test.true c.child-item.is
    (sym c.is_other_element.ensures ∙ c.if-is_other_element.true))

pub loop-child-preserved : goal.loop-child-preserved
loop-child-preserved c =
    none_more (is_other_element c.args.element.now.tree.now) c.children-child-items.result.now c.loop-child.child-index
    c.child-item.result c.loop-child-test.true c.child-item.is c.loop-child.invariant
    (sym c.is_other_element.ensures ∙ c.if-is_other_element.false)

pub returns : goal.returns
returns c =
    let ids = c.children-child-items in
    let p = is_other_element c.args.element.now.tree.now in
    sym (ap (list_any p) (sym ids.ensures.value)
    ∙ none_all p ids.result.now c.loop-child.child-index c.loop-child.invariant c.loop-child-test.false)

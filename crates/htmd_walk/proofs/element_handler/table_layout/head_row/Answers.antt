use Rattle.std.proofs.Common.{sym, ap, ◌∙◌, ◌∷◌, [], filter, codes}
use Rattle.htmd_walk.specs.TableLayouts.{has_tag, head_row}
use Rattle.htmd_walk.proofs.ChildListsLemmas.{filtered_first, filtered_out, filtered_all, child_within}
use Rattle.htmd_walk.proofs.element_handler.table_layout.head_row.Goals as goal

pub has_tag-requires : goal.has_tag-requires
has_tag-requires c =
    let ids = c.children-child-items in
    child_within c.args.tree.now c.args.head ids.result.now c.loop-child.child-index c.child-item.result
    ids.ensures.tree c.requires ids.ensures.value c.loop-child-test.true c.child-item.is

pub returns-then-has_tag-clause-row : goal.returns-then-has_tag-clause-row
returns-then-has_tag-clause-row c =
    let p = has_tag (codes "tr" ∷ []) c.args.tree.now in
    sym (ap (λ rows. head_row rows c.args.head) (ap (filter p) (sym c.children-child-items.ensures.value)
    ∙ filtered_first p c.children-child-items.result.now c.loop-child.child-index c.child-item.result
    c.loop-child-test.true c.child-item.is (sym c.has_tag.ensures ∙ c.if-has_tag.true) c.loop-child.invariant))

pub returns-then-has_tag-clause-within : goal.returns-then-has_tag-clause-within
returns-then-has_tag-clause-within c =
    let ids = c.children-child-items in
    child_within c.args.tree.now c.args.head ids.result.now c.loop-child.child-index c.child-item.result
    ids.ensures.tree c.requires ids.ensures.value c.loop-child-test.true c.child-item.is

pub loop-child-preserved : goal.loop-child-preserved
loop-child-preserved c =
    filtered_out (has_tag (codes "tr" ∷ []) c.args.tree.now) c.children-child-items.result.now
    c.loop-child.child-index c.child-item.result c.loop-child-test.true c.child-item.is
    (sym c.has_tag.ensures ∙ c.if-has_tag.false)
    ∙ c.loop-child.invariant

pub returns-clause-row : goal.returns-clause-row
returns-clause-row c =
    let p = has_tag (codes "tr" ∷ []) c.args.tree.now in
    sym (ap (λ rows. head_row rows c.args.head) (ap (filter p) (sym c.children-child-items.ensures.value)
    ∙ sym (filtered_all p c.children-child-items.result.now c.loop-child.child-index c.loop-child-test.false)
    ∙ c.loop-child.invariant))

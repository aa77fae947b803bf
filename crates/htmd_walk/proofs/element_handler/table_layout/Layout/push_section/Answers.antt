use Rattle.std.proofs.Common.{sym, ap, ◌∙◌, ◌∷◌, [], filter, fold, codes}
use Rattle.htmd_walk.specs.TableLayouts.{has_tag, with_section_row}
use Rattle.htmd_walk.specs.TableViews.{layout_view}
use Rattle.htmd_walk.proofs.ChildListsLemmas.{fold_in, fold_out, filtered_all, child_within}
use Rattle.htmd_walk.proofs.element_handler.table_layout.Layout.push_section.Goals as goal

pub has_tag-requires : goal.has_tag-requires
has_tag-requires c =
    let ids = c.children-child-items in
    child_within c.args.tree.now c.args.section ids.result.now c.loop-child.child-index c.child-item.result
    ids.ensures.tree c.requires ids.ensures.value c.loop-child-test.true c.child-item.is

pub push_section_row-requires : goal.push_section_row-requires
push_section_row-requires c =
    let ids = c.children-child-items in
    child_within c.args.tree.now c.args.section ids.result.now c.loop-child.child-index c.child-item.result
    ids.ensures.tree c.requires ids.ensures.value c.loop-child-test.true c.child-item.is

pub loop-child-preserved : goal.loop-child-preserved
loop-child-preserved c =
    c.in_ok-push_section_row.ensures
    ∙ ap (λ layout. with_section_row c.args.tree.now layout c.child-item.result) c.loop-child.invariant
    ∙ sym (fold_in (with_section_row c.args.tree.now) (layout_view c.args.self.now)
    (has_tag (codes "tr" ∷ []) c.args.tree.now) c.children-child-items.result.now c.loop-child.child-index
    c.child-item.result c.loop-child-test.true c.child-item.is (sym c.has_tag.ensures ∙ c.if-not-has_tag.false))

pub loop-child-preserved-then-not-has_tag : goal.loop-child-preserved-then-not-has_tag
loop-child-preserved-then-not-has_tag c =
    c.loop-child.invariant
    ∙ sym (fold_out (with_section_row c.args.tree.now) (layout_view c.args.self.now)
    (has_tag (codes "tr" ∷ []) c.args.tree.now) c.children-child-items.result.now c.loop-child.child-index
    c.child-item.result c.loop-child-test.true c.child-item.is (sym c.has_tag.ensures ∙ c.if-not-has_tag.true))

pub returns : goal.returns
returns c =
    let p = has_tag (codes "tr" ∷ []) c.args.tree.now in
    c.loop-child.invariant
    ∙ ap (fold (with_section_row c.args.tree.now) (layout_view c.args.self.now))
    (filtered_all p c.children-child-items.result.now c.loop-child.child-index c.loop-child-test.false
    ∙ ap (filter p) c.children-child-items.ensures.value)

use Rattle.std.proofs.Common.{sym, ap, ◌∙◌, ◌∷◌, [], ◌++◌, filter}
use Rattle.htmd_walk.specs.TableLayouts.{has_tag}
use Rattle.htmd_walk.proofs.ChildListsLemmas.{filtered_in, filtered_out, filtered_all, child_within}
use Rattle.htmd_walk.proofs.element_handler.table_layout.tagged_children.Goals as goal

pub has_tag-requires : goal.has_tag-requires
has_tag-requires c =
    let ids = c.children-child-items in
    child_within c.args.tree.now c.args.node ids.result.now c.loop-child.child-index c.child-item.result
    ids.ensures.tree c.requires ids.ensures.value c.loop-child-test.true c.child-item.is

pub loop-child-preserved : goal.loop-child-preserved
loop-child-preserved c =
    c.in_ok-push.ensures.items
    ∙ ap (λ ys. ys ++ c.child-item.result ∷ []) c.loop-child.invariant
    ∙ sym (filtered_in (has_tag (c.args.tag.now ∷ []) c.args.tree.now) c.children-child-items.result.now
    c.loop-child.child-index c.child-item.result c.loop-child-test.true c.child-item.is
    (sym c.has_tag.ensures ∙ c.if-not-has_tag.false))

pub loop-child-preserved-then-not-has_tag : goal.loop-child-preserved-then-not-has_tag
loop-child-preserved-then-not-has_tag c =
    c.loop-child.invariant
    ∙ sym (filtered_out (has_tag (c.args.tag.now ∷ []) c.args.tree.now) c.children-child-items.result.now
    c.loop-child.child-index c.child-item.result c.loop-child-test.true c.child-item.is
    (sym c.has_tag.ensures ∙ c.if-not-has_tag.true))

pub returns : goal.returns
returns c =
    let p = has_tag (c.args.tag.now ∷ []) c.args.tree.now in
    c.loop-child.invariant
    ∙ filtered_all p c.children-child-items.result.now c.loop-child.child-index c.loop-child-test.false
    ∙ ap (filter p) c.children-child-items.ensures.value

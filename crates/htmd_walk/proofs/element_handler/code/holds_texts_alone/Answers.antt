-- One child more.
use Rattle.std.proofs.Common.{◌&&◌, ◌+◌, ap, sym, ◌∙◌, drop}
use Rattle.std.specs.List.{list_all}
use Rattle.std.proofs.lemmas.List.{drop_all}
use Rattle.htmd_nodes.specs.Items.{data_at}
use Rattle.htmd_nodes.proofs.ItemsLemmas.{child_read}
use Rattle.htmd_walk.specs.Rendering.{is_text}
use Rattle.htmd_walk.proofs.CodeLemmas.{all-step}
use Rattle.htmd_walk.proofs.element_handler.code.holds_texts_alone.Goals as goal

pub is_text-requires : goal.is_text-requires
is_text-requires c =
    let child = child_read c.args.element.now.tree.now c.args.element.now.node c.children-child-items.result.now
    c.loop-child.child-index c.child-item.result c.children-child-items.ensures.tree c.args.element.now.within
    c.children-child-items.ensures.value c.loop-child-test.true c.child-item.is in
    child.1

pub returns-then-not-is_text : goal.returns-then-not-is_text
returns-then-not-is_text c =
    let items = c.args.element.now.tree.now in
    let ids = c.children-child-items.result.now in
    sym (all-step (λ child. is_text (data_at items child)) ids c.loop-child.child-index c.child-item.result
    c.loop-child-test.true c.child-item.is
    ∙ ap (λ b. b && list_all (λ child. is_text (data_at items child)) (drop (c.loop-child.child-index + 1) ids))
    (sym c.is_text.ensures.value ∙ c.if-not-is_text.true))
    ∙ c.loop-child.invariant
    ∙ ap (list_all (λ child. is_text (data_at items child))) c.children-child-items.ensures.value

pub loop-child-preserved : goal.loop-child-preserved
loop-child-preserved c =
    let items = c.args.element.now.tree.now in
    let ids = c.children-child-items.result.now in
    sym (all-step (λ child. is_text (data_at items child)) ids c.loop-child.child-index c.child-item.result
    c.loop-child-test.true c.child-item.is
    ∙ ap (λ b. b && list_all (λ child. is_text (data_at items child)) (drop (c.loop-child.child-index + 1) ids))
    (sym c.is_text.ensures.value ∙ c.if-not-is_text.false))
    ∙ c.loop-child.invariant

pub returns : goal.returns
returns c =
    let items = c.args.element.now.tree.now in
    let ids = c.children-child-items.result.now in
    sym (ap (list_all (λ child. is_text (data_at items child))) (drop_all c.loop-child.child-index ids
    c.loop-child-test.false))
    ∙ c.loop-child.invariant
    ∙ ap (list_all (λ child. is_text (data_at items child))) c.children-child-items.ensures.value

use Rattle.std.proofs.Common.{sym, ap, ◌∙◌, ◌||◌, map, drop, ◌+◌}
use Rattle.htmd_document.specs.DocumentViews.{blocks_of}
use Rattle.htmd_flow.specs.ListViews.{item_of}
use Rattle.htmd_flow.specs.Lists as spec
use Rattle.htmd_document.specs.TightItems.{is_filled}
use Rattle.htmd_flow.proofs.ListsLemmas.{filled_at, map_end}
use Rattle.htmd_flow.proofs.list.are_filled.Goals as goal

pub returns-then-is_filled : goal.returns-then-is_filled
returns-then-is_filled c =
    sym (sym c.loop-item.invariant ∙ filled_at c.args.items.now c.loop-item.item-index c.item-item.result
    c.loop-item-test.true c.item-item.is
    ∙ ap (λ b. b || spec.are_filled (map item_of (drop (c.loop-item.item-index + 1) c.args.items.now)))
    (sym (c.is_filled.ensures ∙ ap (λ bs. is_filled (blocks_of bs))
    c.as_slice.ensures.value) ∙ c.if-is_filled.true))

pub loop-item-preserved : goal.loop-item-preserved
loop-item-preserved c =
    sym (filled_at c.args.items.now c.loop-item.item-index c.item-item.result c.loop-item-test.true c.item-item.is
    ∙ ap (λ b. b || spec.are_filled (map item_of (drop (c.loop-item.item-index + 1) c.args.items.now)))
    (sym (c.is_filled.ensures ∙ ap (λ bs. is_filled (blocks_of bs))
    c.as_slice.ensures.value) ∙ c.if-is_filled.false))
    ∙ c.loop-item.invariant

pub returns : goal.returns
returns c =
    sym (sym c.loop-item.invariant ∙ ap spec.are_filled (map_end item_of c.args.items.now c.loop-item.item-index
    c.loop-item-test.false))

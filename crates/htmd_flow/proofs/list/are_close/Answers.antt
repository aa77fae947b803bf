use Rattle.std.proofs.Common.{sym, ap, ◌∙◌, ◌&&◌, map, drop, ◌+◌}
use Rattle.std.specs.List.{list_all}
use Rattle.htmd_flow.specs.ListViews.{item_of}
use Rattle.htmd_flow.specs.Lists as spec
use Rattle.htmd_flow.proofs.ListsLemmas.{close_at, map_end}
use Rattle.htmd_flow.proofs.list.are_close.Goals as goal

pub returns-then-not-is_close : goal.returns-then-not-is_close
returns-then-not-is_close c =
    sym (sym c.loop-item.invariant ∙ close_at c.args.items.now c.loop-item.item-index c.item-item.result
    c.loop-item-test.true c.item-item.is
    ∙ ap (λ b. b && list_all spec.is_close (map item_of (drop (c.loop-item.item-index + 1) c.args.items.now)))
    (sym c.is_close.ensures ∙ c.if-not-is_close.true))

pub loop-item-preserved : goal.loop-item-preserved
loop-item-preserved c =
    sym (close_at c.args.items.now c.loop-item.item-index c.item-item.result c.loop-item-test.true c.item-item.is
    ∙ ap (λ b. b && list_all spec.is_close (map item_of (drop (c.loop-item.item-index + 1) c.args.items.now)))
    (sym c.is_close.ensures ∙ c.if-not-is_close.false))
    ∙ c.loop-item.invariant

pub returns : goal.returns
returns c =
    sym (sym c.loop-item.invariant ∙ ap (list_all spec.is_close) (map_end item_of c.args.items.now
    c.loop-item.item-index c.loop-item-test.false))

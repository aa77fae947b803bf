-- What is left to prove of `blocks_values` and `values_within`.
use Rattle.std.proofs.Common.{true, ◌∙◌, ◌&&◌, ◌==◌, sym, ap, map, arith}
use Rattle.std.proofs.lemmas.List.{take_all, length-map}
use Rattle.serde_json.specs.View.{view, items_view}
use Rattle.htmd_document.specs.Documents as value
use Rattle.htmd_document.specs.DocumentViews.{block_of, blocks_of}
use Rattle.htmd_document.specs.FlatDocuments.{flattened, flat_items, flat_block}
use Rattle.htmd_document.specs.FlatViews.{flat_of}
use Rattle.htmd_document.specs.Mdast.{items_data, checked_data, blocks_data, within_data}
use Rattle.htmd_document.proofs.FlatLemmas.{flat-less, item-less}
use Rattle.htmd_document.proofs.MdastLemmas.{blocks-step, items-step, view-push, block-list}
use Rattle.htmd_document.proofs.mdast.+blocks.Goals as goal

pub blocks_values-loop-block-preserved : goal.blocks_values-loop-block-preserved
blocks_values-loop-block-preserved t c = record {
  count = omega (arith, c.in_ok-push.ensures.len, c.loop-block.invariant.count);
  value = blocks-step flat_of c.args.in_item _ c.deref-block-items.result.now c.loop-block.block-index
      c.block-item.result
      (items_view c.loop-block.values.items) (items_view c.push.new.self.items)
      (items_view c.in_ok-children.children.items)
      (view c.in_ok-flat_value.field-0) c.loop-block-test.true c.block-item.is c.in_ok-children.ensures
      (ap (λ e. c.args.in_item && e) (c.is_empty.ensures ∙ ap (λ n. n == 0) c.loop-block.invariant.count))
      c.in_ok-flat_value.ensures c.loop-block.invariant.value
      (ap items_view c.in_ok-push.ensures.items ∙ view-push c.loop-block.values.items c.in_ok-flat_value.field-0);
}

pub values_within-loop-blocks-preserved : goal.values_within-loop-blocks-preserved
values_within-loop-blocks-preserved t c = items-step c.in-List.tight c.deref-blocks-items.result.now
    c.loop-blocks.blocks-index c.blocks-item.result (items_view c.loop-blocks.values.items)
    (items_view c.push.new.self.items) (view c.checked.result) (view c.in_ok-item-in-List.field-0)
    (items_view c.in_ok-children-in-List.children.items) c.loop-blocks-test.true c.blocks-item.is
    (c.checked.ensures ∙ ap (λ bs. checked_data (blocks_of bs)) c.deref-in-loop-blocks-2.ensures.value)
    (c.in_ok-children-in-List.ensures
    ∙ ap (λ bs. blocks_data true (flattened (blocks_of bs))) c.deref-in-loop-blocks.ensures.value)
    c.in_ok-item-in-List.ensures c.loop-blocks.invariant
    (ap items_view c.in_ok-push-in-List.ensures.items ∙ view-push c.loop-blocks.values.items
    c.in_ok-item-in-List.field-0)

pub values_within-returns-after-loop-blocks : goal.values_within-returns-after-loop-blocks
values_within-returns-after-loop-blocks t c = c.loop-blocks.invariant
    ∙ (ap (λ xs. items_data c.in-List.tight (flat_items (value.items_of xs)))
    (take_all c.loop-blocks.blocks-index (map (λ bs. blocks_of bs.items) c.deref-blocks-items.result.now)
    (simp length-map c.loop-blocks-test.false))
    ∙ (ap (λ xs. items_data c.in-List.tight (flat_items (value.items_of (map (λ bs. blocks_of bs.items) xs))))
    c.deref-blocks-items.ensures.value
    ∙ ap (λ b. within_data (flat_block b))
    (sym (ap block_of c.in-List.is ∙ block-list c.in-List.start c.in-List.tight c.in-List.items))))

pub blocks_values-values_in_flat-requires : goal.blocks_values-values_in_flat-requires
blocks_values-values_in_flat-requires t c = (
  flat-less flat_of c.deref-block-items.result.now c.in_ok-flat.flat.items c.loop-block.block-index
      c.block-item.result (flattened (blocks_of c.args.blocks.now)) t c.loop-block-test.true c.block-item.is
      c.deref-block-items.ensures.value c.in_ok-flat.ensures c.decreases,
  tt,
)

pub values_within-blocks_values-requires-in-loop-blocks : goal.values_within-blocks_values-requires-in-loop-blocks
values_within-blocks_values-requires-in-loop-blocks t c = (
  item-less (λ bs. blocks_of bs.items) c.deref-blocks-items.result.now c.in-List.items.items
      c.loop-blocks.blocks-index c.blocks-item.result (blocks_of c.deref-in-loop-blocks.result.now)
      (block_of c.args.block.now) c.in-List.start c.in-List.tight t c.loop-blocks-test.true c.blocks-item.is
      c.deref-blocks-items.ensures.value (ap blocks_of c.deref-in-loop-blocks.ensures.value)
      (ap block_of c.in-List.is ∙ block-list c.in-List.start c.in-List.tight c.in-List.items) c.decreases,
  tt,
)

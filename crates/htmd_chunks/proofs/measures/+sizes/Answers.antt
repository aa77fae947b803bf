-- One more block or item, and the size of a list and of an item.
use Rattle.std.proofs.Common.{◌≡◌, ℕ, ◌+◌, length, cond, sym, subst, ap, ◌∙◌, arith, rules}
use Rattle.std.specs.Prelude.{◌==◌, IfOk}
use Rattle.htmd_document.specs.Documents as value
use Rattle.htmd_document.specs.DocumentViews.{block_of, blocks_of}
use Rattle.htmd_commonmark.specs.BlockMarkdown.{item_count}
use Rattle.htmd_commonmark.specs.BlockViews.{all_items_of}
use Rattle.htmd_commonmark.proofs.BlocksLemmas.{list_shape}
use Rattle.htmd_chunks.specs.Measures.{block_size, item_size, items_size}
use Rattle.htmd_chunks.specs.Sizes.{plus, gap_size}
use Rattle.htmd_chunks.specs.declared.size.Size.{Size}
use Rattle.htmd_chunks.proofs.MeasuresLemmas.{items-step, gap-some, gap-none}
use Rattle.htmd_chunks.proofs.MeasuresLemmas.{item-filled, counted, block-less, list-less, item-less, if-ok}
use Rattle.htmd_chunks.proofs.measures.+sizes.Goals.{items_size-then-i-gt0+in_ok-size, items_size-else-i-gt0}
use Rattle.htmd_chunks.proofs.measures.+sizes.Goals as goal

pub block_size-returns-in-List : goal.block_size-returns-in-List
block_size-returns-in-List n c =
    let options = c.args.options.now in
    let start = c.in-List.start in
    let tight = c.in-List.tight in
    let items = c.in-List.items.items in
    let size : c.len.result ≡ item_count (all_items_of items) =
    let len : c.len.result ≡ length items = search rules in len ∙ sym (counted items) in
    let shape : block_of c.args.block.now ≡ value.list start tight (all_items_of items) =
    ap block_of c.in-List.is ∙ list_shape start tight c.in-List.items in
    let all : items_size options (record { start = start; is_tight = tight; count = c.len.result }) 0
    (all_items_of c.deref-in-List.result.now) ≡ block_size options (block_of c.args.block.now) =
    ap (λ (k : ℕ). items_size options (record { start = start; is_tight = tight; count = k }) 0
    (all_items_of c.deref-in-List.result.now)) size
    ∙ ap (λ l. items_size options
    (record { start = start; is_tight = tight; count = item_count (all_items_of items) })
    0 (all_items_of l)) c.deref-in-List.ensures.value
    ∙ ap (block_size options) (sym shape) in
    subst (λ (s : Size). IfOk c.items_size.result (λ size. size ≡ s)) all c.items_size.ensures

pub item_size-returns : goal.item_size-returns
item_size-returns n c =
    if-ok c.indented.result c.indented.ensures (λ size is.
    item-filled c.args.options.now c.args.list c.args.place c.args.content.now c.in_ok-item_width.field-0
    c.in_ok-blocks_size.field-0 size (sym c.is_empty.ensures ∙ c.if-is_empty.false) c.in_ok-item_width.ensures
    c.in_ok-blocks_size.ensures is)

pub items_size-loop-i-preserved : goal.items_size-loop-i-preserved
items_size-loop-i-preserved n c =
    let options = c.args.options.now in
    let l = c.args.list in
    let i = c.loop-i.i in
    let size = c.loop-i.size in
    let at : c.if-i-gt0.size ≡ cond (i == 0) size (plus size (gap_size l.is_tight)) =
    elim c.if-i-gt0.branch [
      | items_size-then-i-gt0+in_ok-size w ↦
          gap-some size c.if-i-gt0.size l.is_tight i (omega arith)
          (w.size-is ∙ w.in_ok-size.ensures ∙ ap (plus size) w.of_gap.ensures)
      | items_size-else-i-gt0 w ↦ gap-none size c.if-i-gt0.size l.is_tight i (omega arith) w.size-is
    ] in
    let content = c.index-items-i.result in
    let this : c.in_ok-item_size.field-0 ≡ item_size options l i (blocks_of content.items) =
    c.in_ok-item_size.ensures ∙ ap (λ bs. item_size options l i (blocks_of bs)) c.deref.ensures.value in
    items-step options l size c.if-i-gt0.size c.in_ok-size-2.size c.args.items.now i content c.loop-i-test.true
    c.index-items-i.is at (c.in_ok-size-2.ensures ∙ ap (plus c.if-i-gt0.size) this)
    ∙ c.loop-i.invariant

pub block_size-items_size-requires : goal.block_size-items_size-requires
block_size-items_size-requires n c =
    let items = c.in-List.items in
    let shape : block_of c.args.block.now ≡ value.list c.in-List.start c.in-List.tight (all_items_of items.items) =
    ap block_of c.in-List.is ∙ list_shape c.in-List.start c.in-List.tight items in (
      list-less c.deref-in-List.result.now items.items (block_of c.args.block.now) c.in-List.start c.in-List.tight n
          shape c.deref-in-List.ensures.value c.decreases,
      search rules,
    )

pub blocks_size-block_size-requires : goal.blocks_size-block_size-requires
blocks_size-block_size-requires n c = (
  block-less c.args.blocks.now c.loop-i.i c.index-blocks-i.result n c.loop-i-test.true c.index-blocks-i.is c.decreases,
  tt,
)

pub items_size-item_size-requires : goal.items_size-item_size-requires
items_size-item_size-requires n c = (
  item-less c.args.items.now c.loop-i.i c.index-items-i.result c.deref.result.now n c.loop-i-test.true
      c.index-items-i.is c.deref.ensures.value c.decreases,
  (omega (arith, c.requires.items, c.loop-i-test.true), c.requires.count),
)

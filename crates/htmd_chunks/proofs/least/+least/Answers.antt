use Rattle.std.proofs.Common.{◌≡◌, ◌+◌, ◌<◌, ◌≤◌, ◌∙◌, true, false, ap, sym, subst, length, arith, rules}
use Rattle.std.specs.Prelude.{nat_le, if◌then◌else◌}
use Rattle.std.proofs.lemmas.Bool.{le-leb}
use Rattle.std.proofs.lemmas.Bool.Decides.{nat_tests}
use Rattle.htmd_document.specs.Documents as value
use Rattle.htmd_document.specs.DocumentViews.{block_of, blocks_of}
use Rattle.htmd_document.specs.NormalDocuments.{depth_of, depth_among, depth_of_items}
use Rattle.htmd_commonmark.specs.BlockMarkdown.{item_count}
use Rattle.htmd_commonmark.specs.BlockViews.{all_items_of, cells_of, rows_of}
use Rattle.htmd_commonmark.proofs.BlocksLemmas.{list_shape}
use Rattle.htmd_chunks.specs.Least as spec
use Rattle.htmd_chunks.specs.Measures.{item_width}
use Rattle.htmd_chunks.specs.Rows as rows
use Rattle.htmd_chunks.specs.Sizes.{in_item}
use Rattle.htmd_chunks.proofs.DepthsLemmas.{depth-at, depth-in, list-less}
use Rattle.htmd_chunks.proofs.DepthsLemmas.{items_below, blocks_below, block_below}
use Rattle.htmd_chunks.proofs.LeastLemmas.{if_ok, items_counted, among_step, least_read}
use Rattle.htmd_chunks.proofs.LeastLemmas.{least_none}
use Rattle.htmd_chunks.proofs.ShapesLemmas.{table_shape}
use Rattle.htmd_chunks.proofs.least.+least.Goals as goal

pub least-returns-in-List : goal.least-returns-in-List
least-returns-in-List t c =
    let bounds = c.args.bounds.now in
    let margin = c.args.margin in
    let items = c.in-List.items in
    let start = c.in-List.start in
    let tight = c.in-List.tight in
    let shape : block_of c.args.block.now ≡ value.list start tight (all_items_of items.items) =
    ap block_of c.in-List.is ∙ list_shape start tight items in
    let count : c.len.result ≡ item_count (all_items_of items.items) =
    c.len.ensures ∙ items.ok.0 ∙ sym (items_counted items.items) in
    if_ok c.least_item.result _ (spec.least bounds margin (block_of c.args.block.now)) c.least_item.ensures
    (ap (λ l. spec.least_item bounds margin (record { start = start; is_tight = tight; count = c.len.result }) 0 0
    (all_items_of l)) c.deref-in-List.ensures.value
    ∙ ap (λ n. spec.least_item bounds margin (record { start = start; is_tight = tight; count = n }) 0 0
    (all_items_of items.items)) count
    ∙ ap (spec.least bounds margin) (sym shape))

pub least-returns-in-Table : goal.least-returns-in-Table
least-returns-in-Table t c =
    let bounds = c.args.bounds.now in
    let margin = c.args.margin in
    let a = c.in-Table.alignments in
    let h = c.in-Table.header in
    let r = c.in-Table.rows in
    if_ok c.least_rows.result _ (spec.least bounds margin (block_of c.args.block.now)) c.least_rows.ensures
    (ap (λ l. rows.least_rows bounds margin l (cells_of c.deref-in-Table-2.result.now)
    (rows_of c.deref-in-Table-3.result.now)) c.deref-in-Table.ensures.value
    ∙ ap (λ l. rows.least_rows bounds margin a.items (cells_of l) (rows_of c.deref-in-Table-3.result.now))
    c.deref-in-Table-2.ensures.value
    ∙ ap (λ l. rows.least_rows bounds margin a.items (cells_of h.items) (rows_of l)) c.deref-in-Table-3.ensures.value
    ∙ ap (spec.least bounds margin) (sym (ap block_of c.in-Table.is ∙ table_shape a h r)))

pub least-least_item-requires : goal.least-least_item-requires
least-least_item-requires t c =
    let items = c.in-List.items in
    let shape : block_of c.args.block.now ≡ value.list c.in-List.start c.in-List.tight (all_items_of items.items) =
    ap block_of c.in-List.is ∙ list_shape c.in-List.start c.in-List.tight items in
    let less = list-less items.items c.deref-in-List.result.now (block_of c.args.block.now) c.in-List.start
    c.in-List.tight shape c.deref-in-List.ensures.value in (
      items_below (depth_of_items (all_items_of c.deref-in-List.result.now)) (depth_of (block_of c.args.block.now)) t
          less c.decreases,
      search rules,
    )

pub least_among-least-requires : goal.least_among-least-requires
least_among-least-requires t c = (
  block_below (depth_of (block_of c.index-blocks-i.result)) (depth_among (blocks_of c.args.blocks.now)) t
      (depth-at c.args.blocks.now c.loop-i.i c.index-blocks-i.result c.loop-i-test.true c.index-blocks-i.is)
      c.decreases,
  tt,
)

pub least_item-least_among-requires : goal.least_item-least_among-requires
least_item-least_among-requires t c =
    let items = c.args.items.now in
    let place = c.empties_before-place.result in
    let v = c.index-items-place.result in
    let within : place < length items =
    omega (arith, c.empties_before-place.ensures.bound, c.if-place-items.false) in
    let less : depth_among (blocks_of c.deref-2.result.now) ≤ depth_of_items (all_items_of items) =
    subst (λ l. depth_among (blocks_of l) ≤ depth_of_items (all_items_of items)) (sym c.deref-2.ensures.value)
    (depth-in items place v within c.index-items-place.is) in (
      blocks_below (depth_among (blocks_of c.deref-2.result.now)) (depth_of_items (all_items_of items)) t less
          c.decreases,
      tt,
    )

pub least_among-loop-i-preserved : goal.least_among-loop-i-preserved
least_among-loop-i-preserved t c =
    c.loop-i.invariant
    ∙ among_step c.args.bounds.now c.args.margin c.args.is_tight c.args.blocks.now c.loop-i.i c.index-blocks-i.result
    c.loop-i.heads c.in_ok-block_cost.field-0 c.in_ok-whole.whole c.in_ok-gap.field-0 c.in_ok-heads.heads
    c.loop-i-test.true c.index-blocks-i.is c.if-not-is_heading.ensures c.if-i-blocks.false c.in_ok-block_cost.ensures
    c.in_ok-whole.ensures c.in_ok-gap.ensures c.in_ok-heads.ensures

pub least_item-returns-then-place-items : goal.least_item-returns-then-place-items
least_item-returns-then-place-items t c =
    sym (least_none c.args.bounds.now c.args.margin c.args.list c.args.items.now c.empties_before-place.result
    c.in_ok-heads.heads c.empties_before-place.ensures.value c.if-place-items.true c.in_ok-heads.ensures)

pub least_item-returns-then-whole-bounds : goal.least_item-returns-then-whole-bounds
least_item-returns-then-whole-bounds t c =
    let place = c.empties_before-place.result in
    let heads = c.in_ok-heads.heads in
    let whole = c.in_ok-whole.whole in
    let v = c.index-items-place.result in
    let most = c.args.bounds.now.most in
    let within : place < length c.args.items.now =
    omega (arith, c.empties_before-place.ensures.bound, c.if-place-items.false) in
    let fits : nat_le whole most ≡ true = le-leb whole most c.if-whole-bounds.true in
    sym (least_read c.args.bounds.now c.args.margin c.args.list c.args.items.now v c.deref.result.now place heads whole
    c.empties_before-empties.result c.empties_before-place.ensures.value within c.index-items-place.is
    c.deref.ensures.value c.in_ok-heads.ensures c.empties_before-empties.ensures.value c.in_ok-whole.ensures
    ∙ ap (λ b. if b then whole else (heads + spec.least_among c.args.bounds.now
    (in_item (item_width c.args.bounds.now.options c.args.list place) c.args.margin) c.args.list.is_tight 0
    (blocks_of v.items))) fits)

pub least_item-returns : goal.least_item-returns
least_item-returns t c =
    let bounds = c.args.bounds.now in
    let margin = c.args.margin in
    let list = c.args.list in
    let place = c.empties_before-place.result in
    let heads = c.in_ok-heads.heads in
    let whole = c.in_ok-whole.whole in
    let v = c.index-items-place.result in
    let within : place < length c.args.items.now =
    omega (arith, c.empties_before-place.ensures.bound, c.if-place-items.false) in
    let over : nat_le whole bounds.most ≡ false = grind (arith, nat_tests, c.if-whole-bounds.false) in
    let inside = in_item (item_width bounds.options list place) margin in
    let margins : c.in_ok-within.within ≡ inside =
    c.in_ok-within.ensures ∙ ap (λ w. in_item w margin) c.in_ok-item_width.ensures in
    if_ok c.sum.result _ (spec.least_item bounds margin list 0 0 (all_items_of c.args.items.now)) c.sum.ensures
    (ap (λ n. heads + n) c.in_ok-least_among.ensures
    ∙ ap (λ m. heads + spec.least_among bounds m list.is_tight 0 (blocks_of c.deref-2.result.now)) margins
    ∙ ap (λ bs. heads + spec.least_among bounds inside list.is_tight 0 (blocks_of bs)) c.deref-2.ensures.value
    ∙ sym (least_read bounds margin list c.args.items.now v c.deref.result.now place heads whole
    c.empties_before-empties.result c.empties_before-place.ensures.value within c.index-items-place.is
    c.deref.ensures.value c.in_ok-heads.ensures c.empties_before-empties.ensures.value c.in_ok-whole.ensures
    ∙ ap (λ b. if b then whole else (heads + spec.least_among bounds inside list.is_tight 0 (blocks_of v.items)))
    over))

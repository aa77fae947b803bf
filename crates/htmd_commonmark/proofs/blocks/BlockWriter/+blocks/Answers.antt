-- One more block or item, and what is written of quotes, items and lists.
use Rattle.std.proofs.Common.{◌≡◌, ◌+◌, cond, length, drop, refl, sym, subst, ap, ◌∙◌, arith, rules}
use Rattle.std.specs.Prelude.{◌==◌, OnOk, true}
use Rattle.htmd_document.specs.Documents as value
use Rattle.htmd_document.specs.DocumentViews.{block_of, blocks_of}
use Rattle.htmd_document.specs.FlatDocuments.{flattened, flat_items, flat_block}
use Rattle.htmd_document.specs.FlatViews.{flat_of, flat_blocks_of}
use Rattle.htmd_commonmark.specs.declared.markers.Markers.{Markers}
use Rattle.htmd_commonmark.specs.BlockMarkdown.{marker, spaces, separator, sign_of, place_in_item, place_in_quote}
use Rattle.htmd_commonmark.specs.BlockMarkdown.{item_count}
use Rattle.htmd_commonmark.specs.BlockMarkdown.{markers_of, written_blocks, written_block, written_items}
use Rattle.htmd_commonmark.specs.BlockViews.{output_of, put, put_text, all_items_of}
use Rattle.htmd_commonmark.specs.Pages.{in_item, indented}
use Rattle.htmd_commonmark.proofs.BlocksLemmas.{counted, list_shape, on_ok, quote_put, item_put, with_blocks}
use Rattle.htmd_commonmark.proofs.BlocksLemmas.{with_items, block_split}
use Rattle.htmd_commonmark.proofs.BlocksLemmas.{flat_less, all_less, list_less, item_less, item_split, blocks_step, items_step, no_more_blocks}
use Rattle.htmd_commonmark.proofs.BlocksLemmas.{no_more_items}
use Rattle.htmd_commonmark.proofs.BlocksLemmas.{pushed_some, pushed_none}
use Rattle.htmd_commonmark.proofs.blocks.BlockWriter.+blocks.Goals as goal
use Rattle.htmd_commonmark.proofs.blocks.BlockWriter.+blocks.Goals.{write_flat_blocks-then-i-gt0+in_ok-push_separator}
use Rattle.htmd_commonmark.proofs.blocks.BlockWriter.+blocks.Goals.{write_flat_blocks-else-i-gt0}
use Rattle.htmd_commonmark.proofs.blocks.BlockWriter.+blocks.Goals.{write_list-then-i-gt0+in_ok-push_separator}
use Rattle.htmd_commonmark.proofs.blocks.BlockWriter.+blocks.Goals.{write_list-else-i-gt0}

pub write_block-returns-in-List : goal.write_block-returns-in-List
write_block-returns-in-List n c =
    let o = output_of c.args.self.now in
    let options = c.args.options.now in
    let place = c.args.place in
    let items = c.in-List.items.items in
    let start = c.in-List.start in
    let tight = c.in-List.tight in
    let new = output_of c.write_list.new.self in
    let size : c.len.result ≡ length items = search rules in
    let markers : c.of-markers.result
    ≡ markers_of options c.args.before place.outer start (item_count (flat_items (all_items_of items))) =
    c.of-markers.ensures ∙ ap (markers_of options c.args.before place.outer start) (size ∙ sym (counted items)) in
    let shape : block_of c.args.block.now ≡ value.list start tight (all_items_of items) =
    ap block_of c.in-List.is ∙ list_shape start tight c.in-List.items in
    let written = subst (λ (m : Markers). OnOk c.write_list.result
    (new ≡ put o (written_items options m tight o.definitions
    (flat_items (all_items_of c.deref-in-List.result.now)))))
    markers c.write_list.ensures in
    let whole = on_ok c.write_list.result written (λ e. e
    ∙ ap (λ l. put o (written_items options
    (markers_of options c.args.before place.outer start (item_count (flat_items (all_items_of items)))) tight
    o.definitions (flat_items (all_items_of l)))) c.deref-in-List.ensures.value) in
    on_ok c.write_list.result whole
    (λ e. e ∙ ap (λ b. put o (written_block options place c.args.before o.definitions (flat_block b))) (sym shape))

pub write_flat_blocks-loop-i-init : goal.write_flat_blocks-loop-i-init
write_flat_blocks-loop-i-init n c = record { rest = refl; none = λ _. refl }

pub write_flat_blocks-loop-i-preserved : goal.write_flat_blocks-loop-i-preserved
write_flat_blocks-loop-i-preserved n c =
    let o = output_of c.loop-i.self in
    let options = c.args.options.now in
    let place = c.args.place in
    let before = c.loop-i.before in
    let blocks = c.args.blocks.now in
    let b = c.index-blocks-i.result in
    let i = c.loop-i.i in
    let at = output_of c.if-i-gt0.self in
    let between = put_text o (separator place.tight) o.definitions in
    let pushed : at ≡ cond (i == 0) o between =
    elim c.if-i-gt0.branch [
      | write_flat_blocks-then-i-gt0+in_ok-push_separator w ↦
          ap output_of w.self-is
          ∙ pushed_some o w.push_separator.new.self (separator place.tight) i (omega arith)
          w.in_ok-push_separator.ensures
      | write_flat_blocks-else-i-gt0 w ↦ ap output_of w.self-is ∙ pushed_none o between i (omega arith)
    ] in
    record {
      rest =
          blocks_step options place before c.sign_of-before.result o at (output_of c.write_flat.new.self) (flat_of b)
          (flat_blocks_of (drop (i + 1) blocks)) i c.loop-i.invariant.none pushed
          (c.in_ok-write_flat.ensures
          ∙ ap (λ h. put at (written_block options h before at.definitions (flat_of b))) c.at-here.ensures)
          (c.sign_of-before.ensures ∙ ap (λ h. sign_of options before h.outer (flat_of b)) c.at-here.ensures)
          ∙ ap (with_blocks (i == 0) options place before o)
          (sym (block_split blocks i b c.loop-i-test.true c.index-blocks-i.is))
          ∙ c.loop-i.invariant.rest;
      none = λ e. absurd (omega arith);
    }

pub write_flat_blocks-returns : goal.write_flat_blocks-returns
write_flat_blocks-returns n c =
    sym (no_more_blocks (c.loop-i.i == 0) c.args.options.now c.args.place c.loop-i.before (output_of c.loop-i.self)
    c.args.blocks.now c.loop-i.i c.loop-i-test.false)
    ∙ c.loop-i.invariant.rest

pub write_item-returns : goal.write_item-returns
write_item-returns n c =
    let o = output_of c.args.self.now in
    let options = c.args.options.now in
    let markers = c.args.markers in
    let i = c.args.i in
    let w = written_blocks options (place_in_item markers c.args.tight) o.definitions
    (flattened (blocks_of c.args.blocks.now)) in
    let opened = c.in_ok-outside.ensures.page
    ∙ ap (λ m. in_item o.page m c.spaces.result) (c.deref.ensures ∙ c.in_ok-write.ensures.text)
    ∙ ap (in_item o.page (marker markers i)) c.spaces.ensures in
    let written = c.in_ok-write_blocks.ensures
    ∙ ap (λ u. put (record { page = c.open_item.new.self; definitions = o.definitions })
    (written_blocks options (record { outer = u; in_item = true; tight = c.args.tight }) o.definitions
    (flattened (blocks_of c.args.blocks.now)))) c.outer.ensures in
    item_put o (output_of c.write_blocks.new.self) (marker markers i) (spaces markers i) w c.open_item.new.self
    c.close_item.new.self c.in_ok-outside.outside c.write.ensures.line opened written c.in_ok-outside.ensures.outside
    c.close_item.ensures

pub write_list-write_item-requires : goal.write_list-write_item-requires
write_list-write_item-requires n c = (
  item_less c.args.items.now c.loop-i.i c.index-items-i.result c.deref.result.now n c.loop-i-test.true
      c.index-items-i.is c.deref.ensures.value c.decreases,
  omega (arith, c.requires, c.loop-i-test.true),
)

pub write_list-loop-i-preserved : goal.write_list-loop-i-preserved
write_list-loop-i-preserved n c =
    let o = output_of c.loop-i.self in
    let options = c.args.options.now in
    let markers = c.args.markers in
    let tight = c.args.tight in
    let items = c.args.items.now in
    let bs = c.index-items-i.result in
    let i = c.loop-i.i in
    let at = output_of c.if-i-gt0.self in
    let between = put_text o (separator tight) o.definitions in
    let pushed : at ≡ cond (i == 0) o between =
    elim c.if-i-gt0.branch [
      | write_list-then-i-gt0+in_ok-push_separator w ↦
          ap output_of w.self-is
          ∙ pushed_some o w.push_separator.new.self (separator tight) i (omega arith)
          w.in_ok-push_separator.ensures
      | write_list-else-i-gt0 w ↦ ap output_of w.self-is ∙ pushed_none o between i (omega arith)
    ] in
    items_step options markers tight o at (output_of c.write_item.new.self) (flattened (blocks_of bs.items))
    (flat_items (all_items_of (drop (i + 1) items))) i pushed
    (c.in_ok-write_item.ensures
    ∙ ap (λ l. let w = written_blocks options (place_in_item markers tight) at.definitions
    (flattened (blocks_of l)) in
    put_text at (indented (marker markers i) (spaces markers i) w.text) w.definitions) c.deref.ensures.value)
    ∙ ap (with_items i options markers tight o) (sym (item_split items i bs c.loop-i-test.true c.index-items-i.is))
    ∙ c.loop-i.invariant

pub write_list-returns : goal.write_list-returns
write_list-returns n c =
    sym (no_more_items c.loop-i.i c.args.options.now c.args.markers c.args.tight (output_of c.loop-i.self)
    c.args.items.now c.loop-i.i c.loop-i-test.false)
    ∙ c.loop-i.invariant

pub write_quote-returns : goal.write_quote-returns
write_quote-returns n c =
    let o = output_of c.args.self.now in
    let w =
    written_blocks c.args.options.now (place_in_quote c.args.in_item) o.definitions
    (flattened (blocks_of c.args.content.now)) in
    on_ok c.close_quote.result c.close_quote.ensures
    (quote_put o (output_of c.write_blocks.new.self) w c.open_quote.new.self c.close_quote.new.self
    c.in_ok-outside.outside c.open_quote.ensures.within c.in_ok-outside.ensures.page c.in_ok-write_blocks.ensures
    c.in_ok-outside.ensures.outside)

pub write_flat_blocks-write_flat-requires : goal.write_flat_blocks-write_flat-requires
write_flat_blocks-write_flat-requires n c = (
  flat_less c.args.blocks.now c.loop-i.i c.index-blocks-i.result n c.loop-i-test.true c.index-blocks-i.is c.decreases,
  tt,
)

pub write_block-write_list-requires : goal.write_block-write_list-requires
write_block-write_list-requires n c =
    let items = c.in-List.items in
    let shape : block_of c.args.block.now ≡ value.list c.in-List.start c.in-List.tight (all_items_of items.items) =
    ap block_of c.in-List.is ∙ list_shape c.in-List.start c.in-List.tight items in (
      list_less c.deref-in-List.result.now items.items (block_of c.args.block.now) c.in-List.start c.in-List.tight n
          shape c.deref-in-List.ensures.value c.decreases,
      search rules,
    )

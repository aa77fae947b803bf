-- With the blocks or items to come, what is written so far is all of it. How deep blocks nest that a call is for.
use Rattle.std.proofs.Common.{◌≡◌, ◌+◌, ◌*◌, drop}
use Rattle.std.specs.Prelude.{◌==◌, true, None}
use Rattle.htmd_document.specs.DocumentViews.{block_of, blocks_of}
use Rattle.htmd_document.specs.FlatDocuments.{flattened, flat_items, flat_block}
use Rattle.htmd_document.specs.FlatViews.{flat_of, flat_blocks_of}
use Rattle.htmd_document.specs.NormalDocuments.{depth_of, depth_among, depth_of_items}
use Rattle.htmd_commonmark.specs.BlockViews.{output_of, all_items_of}
use Rattle.htmd_commonmark.proofs.BlocksLemmas.{with_blocks, with_items}
use Rattle.htmd_commonmark.proofs.blocks.BlockWriter.+blocks.Given as goal

-- a list is above its items, an item or a quote above its blocks
abbrev pub decreases-write_block : goal.decreases-write_block
decreases-write_block l = depth_of (flat_block (block_of l.block.now)) * 7

abbrev pub decreases-write_flat : goal.decreases-write_flat
decreases-write_flat l = depth_of (flat_of l.block.now) * 7 + 1

abbrev pub decreases-write_flat_blocks : goal.decreases-write_flat_blocks
decreases-write_flat_blocks l = depth_among (flat_blocks_of l.blocks.now) * 7 + 2

abbrev pub decreases-write_blocks : goal.decreases-write_blocks
decreases-write_blocks l = depth_among (flattened (blocks_of l.blocks.now)) * 7 + 3

abbrev pub decreases-write_item : goal.decreases-write_item
decreases-write_item l = depth_among (flattened (blocks_of l.blocks.now)) * 7 + 4

abbrev pub decreases-write_quote : goal.decreases-write_quote
decreases-write_quote l = depth_among (flattened (blocks_of l.content.now)) * 7 + 4

abbrev pub decreases-write_list : goal.decreases-write_list
decreases-write_list l = depth_of_items (flat_items (all_items_of l.items.now)) * 7 + 5

abbrev pub invariant-write_flat_blocks-loop-i : goal.invariant-write_flat_blocks-loop-i
invariant-write_flat_blocks-loop-i l = record {
  rest : with_blocks (l.i == 0) l.options l.place l.before (output_of l.self) (flat_blocks_of (drop l.i l.blocks))
      ≡ with_blocks true l.options l.place None (output_of l.initial.self) (flat_blocks_of l.blocks);
  none : l.i ≡ 0 → l.before ≡ None;
}

abbrev pub invariant-write_list-loop-i : goal.invariant-write_list-loop-i
invariant-write_list-loop-i l =
    with_items l.i l.options l.markers l.tight (output_of l.self) (flat_items (all_items_of (drop l.i l.items)))
    ≡ with_items 0 l.options l.markers l.tight (output_of l.initial.self) (flat_items (all_items_of l.items))

-- With what is still to come, the size so far is the whole one. How deep blocks nest that a call is for.
use Rattle.std.proofs.Common.{◌≡◌, ◌+◌, ◌*◌, drop}
use Rattle.std.specs.Prelude.{◌==◌}
use Rattle.htmd_document.specs.DocumentViews.{block_of, blocks_of}
use Rattle.htmd_document.specs.NormalDocuments.{depth_of, depth_among, depth_of_items}
use Rattle.htmd_commonmark.specs.BlockViews.{all_items_of}
use Rattle.htmd_chunks.specs.Measures.{blocks_size, items_size}
use Rattle.htmd_chunks.specs.Sizes.{plus}
use Rattle.htmd_chunks.proofs.MeasuresLemmas.{size_from, items_size_from}
use Rattle.htmd_chunks.proofs.measures.+sizes.Given as goal

-- a list is above its items, an item or a quote above its blocks
abbrev pub decreases-block_size : goal.decreases-block_size
decreases-block_size l = depth_of (block_of l.block.now) * 4

abbrev pub decreases-blocks_size : goal.decreases-blocks_size
decreases-blocks_size l = depth_among (blocks_of l.blocks.now) * 4 + 1

abbrev pub decreases-item_size : goal.decreases-item_size
decreases-item_size l = depth_among (blocks_of l.content.now) * 4 + 2

abbrev pub decreases-items_size : goal.decreases-items_size
decreases-items_size l = depth_of_items (all_items_of l.items.now) * 4 + 3

abbrev pub invariant-blocks_size-loop-i : goal.invariant-blocks_size-loop-i
invariant-blocks_size-loop-i l =
    plus l.size (size_from (l.i == 0) l.options l.is_tight (blocks_of (drop l.i l.blocks)))
    ≡ blocks_size l.options l.is_tight (blocks_of l.blocks)

abbrev pub invariant-items_size-loop-i : goal.invariant-items_size-loop-i
invariant-items_size-loop-i l =
    plus l.size (items_size_from (l.i == 0) l.options l.list l.i (all_items_of (drop l.i l.items)))
    ≡ items_size l.options l.list 0 (all_items_of l.items)

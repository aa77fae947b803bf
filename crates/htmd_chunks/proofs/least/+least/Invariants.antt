use Rattle.std.proofs.Common.{◌≡◌, ◌+◌, ◌*◌, drop}
use Rattle.htmd_document.specs.DocumentViews.{block_of, blocks_of}
use Rattle.htmd_document.specs.NormalDocuments.{depth_of, depth_among, depth_of_items}
use Rattle.htmd_commonmark.specs.BlockViews.{all_items_of}
use Rattle.htmd_chunks.specs.Least as spec
use Rattle.htmd_chunks.proofs.least.+least.Given as goal

abbrev pub invariant-least_among-loop-i : goal.invariant-least_among-loop-i
invariant-least_among-loop-i l =
    spec.least_among l.bounds l.margin l.is_tight 0 (blocks_of l.blocks)
    ≡ spec.least_among l.bounds l.margin l.is_tight l.heads (blocks_of (drop l.i l.blocks))

-- a list is above its items, an item or a quote above its blocks
abbrev pub decreases-least : goal.decreases-least
decreases-least l = depth_of (block_of l.block.now) * 3

abbrev pub decreases-least_among : goal.decreases-least_among
decreases-least_among l = depth_among (blocks_of l.blocks.now) * 3 + 1

abbrev pub decreases-least_item : goal.decreases-least_item
decreases-least_item l = depth_of_items (all_items_of l.items.now) * 3 + 2

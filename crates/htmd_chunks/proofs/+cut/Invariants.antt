-- What is filled so far with the blocks or items to come is all of it. How deep blocks nest that a call is for.
use Rattle.std.proofs.Common.{◌≡◌, ◌+◌, ◌*◌, ◌≤◌, [], length, map}
use Rattle.std.specs.Vec.Iter.{into_iter_items}
use Rattle.htmd_document.specs.DocumentViews.{block_of, blocks_of}
use Rattle.htmd_document.specs.NormalDocuments.{depth_of, depth_among, depth_of_items}
use Rattle.htmd_commonmark.specs.BlockViews.{all_items_of}
use Rattle.htmd_chunks.specs.ChunkViews.{filling_of, list_filling_of}
use Rattle.htmd_chunks.specs.Cuts.{filled, items_filled}
use Rattle.htmd_chunks.specs.Fillings.{filling, list_filling}
use Rattle.htmd_chunks.specs.Least.{empties_before}
use Rattle.htmd_chunks.specs.Measures.{gap, heads_cost}
use Rattle.htmd_chunks.proofs.CutStepsLemmas.{Going}
use Rattle.htmd_chunks.proofs.+cut.Given as goal

-- a list is above its items, an item or a quote above its blocks
abbrev pub decreases-cut::cut : goal.decreases-cut::cut
decreases-cut::cut l = depth_of (block_of l.block) * 6

abbrev pub decreases-cut::push_unit : goal.decreases-cut::push_unit
decreases-cut::push_unit l = depth_of (block_of l.block) * 6 + 1

abbrev pub decreases-cut::split : goal.decreases-cut::split
decreases-cut::split l = depth_among (blocks_of l.blocks.items) * 6 + 2

abbrev pub decreases-cut_list::push_group : goal.decreases-cut_list::push_group
decreases-cut_list::push_group l = depth_among (blocks_of l.group.item.items) * 6 + 3

abbrev pub decreases-cut_list::cut_items : goal.decreases-cut_list::cut_items
decreases-cut_list::cut_items l = depth_of_items (all_items_of l.items.items) * 6 + 4

abbrev pub decreases-cut::cut_list : goal.decreases-cut::cut_list
decreases-cut::cut_list l = depth_of_items (all_items_of l.items.items) * 6 + 5

abbrev pub invariant-cut::split-loop-block : goal.invariant-cut::split-loop-block
invariant-cut::split-loop-block l = record {
  rest : filled l.bounds l.margin l.is_tight (filling l.first) [] (blocks_of l.fn.blocks.items)
      ≡ filled l.bounds l.margin l.is_tight (filling_of l.filling) (map block_of l.heads.blocks.items)
      (blocks_of (into_iter_items l.block-iterator));
  depth : depth_among (blocks_of (into_iter_items l.block-iterator)) ≤ depth_among (blocks_of l.fn.blocks.items);
  taken : l.heads.bytes ≡ heads_cost l.bounds.options l.margin l.is_tight (map block_of l.heads.blocks.items);
  most : l.filling.limits.most ≡ l.bounds.most;
  gap : l.filling.limits.gap ≡ gap l.margin l.is_tight;
}

abbrev pub invariant-cut_list::cut_items-loop-item : goal.invariant-cut_list::cut_items-loop-item
invariant-cut_list::cut_items-loop-item l = record {
  going : Going l.bounds l.margin l.list
      (items_filled l.bounds l.margin l.list (list_filling l.first) 0 (empties_before (all_items_of l.fn.items.items))
      (all_items_of l.fn.items.items))
      (depth_of_items (all_items_of l.fn.items.items)) (list_filling_of l.filling) l.place l.before l.after l.last
      (all_items_of (into_iter_items l.item-iterator));
  depth : depth_of_items (all_items_of (into_iter_items l.item-iterator))
      ≤ depth_of_items (all_items_of l.fn.items.items);
  count : l.place + length (into_iter_items l.item-iterator) ≡ length l.fn.items.items;
  most : l.filling.limits.most ≡ l.bounds.most;
  gap : l.filling.limits.gap ≡ gap l.margin l.list.is_tight;
  list : l.filling.list ≡ l.list;
}

-- What the loops of `blocks_values` and `values_within` keep, and how deep blocks nest that a call is for.
use Rattle.std.proofs.Common.{◌≡◌, ◌+◌, ◌*◌, map, take, vec_len}
use Rattle.serde_json.specs.View.{items_view}
use Rattle.htmd_document.specs.Documents as value
use Rattle.htmd_document.specs.DocumentViews.{block_of, blocks_of}
use Rattle.htmd_document.specs.FlatDocuments.{flattened, flat_block, flat_items}
use Rattle.htmd_document.specs.FlatViews.{flat_of}
use Rattle.htmd_document.specs.Mdast.{blocks_data, items_data}
use Rattle.htmd_document.specs.NormalDocuments.{depth_of, depth_among}
use Rattle.htmd_document.proofs.mdast.+blocks.Given as goal

abbrev pub decreases-values_within : goal.decreases-values_within
decreases-values_within l = depth_of (flat_block (block_of l.block.now)) * 3

abbrev pub decreases-values_in_flat : goal.decreases-values_in_flat
decreases-values_in_flat l = depth_of (flat_of l.block.now) * 3 + 1

abbrev pub decreases-blocks_values : goal.decreases-blocks_values
decreases-blocks_values l = depth_among (flattened (blocks_of l.blocks.now)) * 3 + 2

abbrev pub invariant-blocks_values-loop-block : goal.invariant-blocks_values-loop-block
invariant-blocks_values-loop-block l = record {
  count : vec_len l.values ≡ l.block-index;
  value : items_view l.values.items
      ≡ blocks_data l.in_item (value.blocks_of (take l.block-index (map flat_of l.block-items)));
}

abbrev pub invariant-values_within-loop-blocks : goal.invariant-values_within-loop-blocks
invariant-values_within-loop-blocks l = items_view l.values.items
    ≡ items_data l.tight
    (flat_items (value.items_of (take l.blocks-index (map (λ bs. blocks_of bs.items) l.blocks-items))))

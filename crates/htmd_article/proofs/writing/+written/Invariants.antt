-- With the parts to come, what is laid out is all of it.
use Rattle.std.proofs.Common.{◌≡◌, ◌+◌, ◌*◌, ◌<◌, ◌++◌, length, drop}
use Rattle.htmd_nodes.specs.Items.{depth_at, item_at}
use Rattle.htmd_nodes.specs.Layout.{forest_items}
use Rattle.htmd_article.specs.PartViews.{parts_of}
use Rattle.htmd_article.specs.Writing.{written}
use Rattle.htmd_article.proofs.writing.+written.Given as goal

-- parts are above each of them
abbrev pub decreases-push_parts : goal.decreases-push_parts
decreases-push_parts l = goal.size-push_parts l * 2 + 1

abbrev pub decreases-push_part : goal.decreases-push_part
decreases-push_part l = goal.size-push_part l * 2

abbrev pub invariant-push_parts-loop-part : goal.invariant-push_parts-loop-part
invariant-push_parts-loop-part l = record {
  within : l.under < length l.out;
  same : item_at l.out l.under ≡ item_at l.fn.out l.under;
  rest : l.out ++ forest_items (depth_at l.fn.out l.under + 1) l.under (length l.out)
      (written l.in_title (parts_of (drop l.part-index l.parts)))
      ≡ l.fn.out ++ forest_items (depth_at l.fn.out l.under + 1) l.under (length l.fn.out)
      (written l.in_title (parts_of l.parts));
}

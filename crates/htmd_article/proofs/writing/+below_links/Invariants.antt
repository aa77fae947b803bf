-- With the parts to come, what is laid out is all of it.
use Rattle.std.proofs.Common.{◌≡◌, ◌+◌, ◌*◌, ◌<◌, ◌++◌, length, drop}
use Rattle.htmd_nodes.specs.Items.{depth_at, item_at}
use Rattle.htmd_nodes.specs.Layout.{forest_items}
use Rattle.htmd_article.specs.PartViews.{parts_of}
use Rattle.htmd_article.specs.TopLinks.{without_links}
use Rattle.htmd_article.specs.Writing.{written}
use Rattle.htmd_article.proofs.writing.+below_links.Given as goal

-- parts are above each of them
abbrev pub decreases-push_below_links : goal.decreases-push_below_links
decreases-push_below_links l = goal.size-push_below_links l * 2 + 1

abbrev pub decreases-push_block : goal.decreases-push_block
decreases-push_block l = goal.size-push_block l * 2

abbrev pub invariant-push_below_links-loop-i : goal.invariant-push_below_links-loop-i
invariant-push_below_links-loop-i l = record {
  within : l.under < length l.out;
  same : item_at l.out l.under ≡ item_at l.fn.out l.under;
  rest : l.out ++ forest_items (depth_at l.fn.out l.under + 1) l.under (length l.out)
      (written l.in_title (without_links (parts_of (drop l.i l.parts))))
      ≡ l.fn.out ++ forest_items (depth_at l.fn.out l.under + 1) l.under (length l.fn.out)
      (written l.in_title (without_links (parts_of l.parts)));
}

-- With the parts to come, what is laid out is all of it.
use Rattle.std.proofs.Common.{◌≡◌, ◌+◌, ◌<◌, ◌++◌, length, drop}
use Rattle.htmd_nodes.specs.Items.{depth_at, item_at}
use Rattle.htmd_nodes.specs.Layout.{forest_items}
use Rattle.htmd_article.specs.Outermost.{all_outermost}
use Rattle.htmd_article.specs.PartViews.{parts_of}
use Rattle.htmd_article.specs.Writing.{all_written}
use Rattle.htmd_article.proofs.writing.+push_outermost.Given as goal

abbrev pub invariant-loop-inner : goal.invariant-loop-inner
invariant-loop-inner l = record {
  within : l.under < length l.out;
  same : item_at l.out l.under ≡ item_at l.fn.out l.under;
  rest : l.out ++ forest_items (depth_at l.fn.out l.under + 1) l.under (length l.out)
      (all_written (all_outermost l.mark (parts_of (drop l.inner-index l.inner-items))))
      ≡ l.fn.out ++ forest_items (depth_at l.fn.out l.under + 1) l.under (length l.fn.out)
      (all_written (all_outermost l.mark (parts_of l.inner-items)));
}

-- With what is left of the nodes to come, what is laid out is all of it.
use Rattle.std.proofs.Common.{◌≡◌, ◌+◌, ◌-◌, ◌*◌, ◌<◌, ◌++◌, length, drop}
use Rattle.std.specs.Option.{option_copied}
use Rattle.htmd_nodes.specs.Items.{children_of, depth_at, item_at}
use Rattle.htmd_nodes.specs.Layout.{forest_items}
use Rattle.htmd_nodes.specs.NumberedTrees.{tree_of, forest_of}
use Rattle.htmd_trimming.specs.Trimming.{trimmed}
use Rattle.htmd_trimming.proofs.trimming.+trimmed.Given as goal

-- children come after their parent
abbrev pub decreases-push_below : goal.decreases-push_below
decreases-push_below l = (length l.page.now.tree.now - (l.node + 1)) * 2 + 1

abbrev pub decreases-push_node : goal.decreases-push_node
decreases-push_node l = (length l.page.now.tree.now - l.node) * 2

abbrev pub invariant-push_below-loop-child : goal.invariant-push_below-loop-child
invariant-push_below-loop-child l = record {
  items : l.child-items ≡ children_of l.page.tree.now l.fn.node;
  within : l.under < length l.out;
  same : item_at l.out l.under ≡ item_at l.fn.out l.under;
  rest : l.out ++ forest_items (depth_at l.fn.out l.under + 1) l.under (length l.out)
      (trimmed l.page.asked (option_copied l.source) (forest_of (tree_of l.page.tree.now)
      (drop l.child-index l.child-items)))
      ≡ l.fn.out ++ forest_items (depth_at l.fn.out l.under + 1) l.under (length l.fn.out)
      (trimmed l.page.asked (option_copied l.fn.source) (forest_of (tree_of l.page.tree.now) l.child-items));
}

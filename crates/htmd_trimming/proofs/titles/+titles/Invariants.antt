-- What the loop of `hold_h1` keeps, and what goes down.
use Rattle.std.proofs.Common.{◌≡◌, ◌+◌, ◌-◌, ◌*◌, length, drop}
use Rattle.htmd_nodes.specs.Items.{children_of}
use Rattle.htmd_nodes.specs.NumberedTrees.{tree_of, forest_of}
use Rattle.htmd_trimming.specs.Titles.{hold_h1}
use Rattle.htmd_trimming.proofs.titles.+titles.Given as goal

-- children come after their parent
abbrev pub decreases-hold_h1 : goal.decreases-hold_h1
decreases-hold_h1 l = (length l.tree.now - (l.node + 1)) * 2 + 1

abbrev pub decreases-holds_h1 : goal.decreases-holds_h1
decreases-holds_h1 l = (length l.tree.now - l.node) * 2

abbrev pub invariant-hold_h1-loop-child : goal.invariant-hold_h1-loop-child
invariant-hold_h1-loop-child l = record {
  items : l.child-items ≡ children_of l.tree l.fn.node;
  rest : hold_h1 (forest_of (tree_of l.tree) (drop l.child-index l.child-items))
      ≡ hold_h1 (forest_of (tree_of l.tree) l.child-items);
}

-- What the loops of the functions of the cycle `serialiser` keep, and what goes down.
use Rattle.std.proofs.Common.{◌≡◌, ◌+◌, ◌-◌, ◌*◌, ◌++◌, length, drop, string_bytes}
use Rattle.htmd_nodes.specs.Items.{children_of}
use Rattle.htmd_nodes.specs.NumberedTrees.{tree_of, forest_of, value_forest}
use Rattle.htmd_values.specs.Serialisation.{all_markup_of}
use Rattle.htmd_nodes.proofs.serialiser.+serialiser.Given as goal

-- children come after their parent
abbrev pub decreases-push_children : goal.decreases-push_children
decreases-push_children l = (length l.tree.now - (l.node + 1)) * 2 + 1

abbrev pub decreases-push_node : goal.decreases-push_node
decreases-push_node l = (length l.tree.now - l.node) * 2

abbrev pub invariant-push_children-loop-child : goal.invariant-push_children-loop-child
invariant-push_children-loop-child l = record {
  items : l.child-items ≡ children_of l.tree l.fn.node;
  rest : string_bytes l.out ++ all_markup_of l.raw
      (value_forest (forest_of (tree_of l.tree) (drop l.child-index l.child-items)))
      ≡ string_bytes l.fn.out ++ all_markup_of l.raw (value_forest (forest_of (tree_of l.tree) l.child-items));
}

-- What the loop of `first_base` keeps, and what goes down.
use Rattle.std.proofs.Common.{◌≡◌, ◌+◌, ◌-◌, ◌*◌, length, drop}
use Rattle.htmd_nodes.specs.Items.{children_of}
use Rattle.htmd_nodes.specs.NumberedTrees.{tree_of, forest_of, value_forest}
use Rattle.htmd_addresses.specs.Bases.{first_base}
use Rattle.htmd_addresses.proofs.bases.+bases.Given as goal

-- children come after their parent
abbrev pub decreases-first_base : goal.decreases-first_base
decreases-first_base l = (length l.tree.now - (l.node + 1)) * 2 + 1

abbrev pub decreases-base_in : goal.decreases-base_in
decreases-base_in l = (length l.tree.now - l.node) * 2

abbrev pub invariant-first_base-loop-child : goal.invariant-first_base-loop-child
invariant-first_base-loop-child l = record {
  items : l.child-items ≡ children_of l.tree l.fn.node;
  rest : first_base (value_forest (forest_of (tree_of l.tree) (drop l.child-index l.child-items)))
      ≡ first_base (value_forest (forest_of (tree_of l.tree) l.child-items));
}

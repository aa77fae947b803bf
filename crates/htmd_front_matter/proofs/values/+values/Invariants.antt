-- What the loop of `first_found` keeps, and what goes down.
use Rattle.std.proofs.Common.{◌≡◌, ◌+◌, ◌-◌, ◌*◌, length, drop}
use Rattle.htmd_nodes.specs.Items.{children_of}
use Rattle.htmd_nodes.specs.NumberedTrees.{tree_of, forest_of, value_forest}
use Rattle.htmd_front_matter.specs.Sources.{source_of}
use Rattle.htmd_front_matter.specs.Values.{first_found}
use Rattle.htmd_front_matter.proofs.values.+values.Given as goal

-- children come after their parent
abbrev pub decreases-first_found : goal.decreases-first_found
decreases-first_found l = (length l.tree.now - (l.node + 1)) * 2 + 1

abbrev pub decreases-found_in : goal.decreases-found_in
decreases-found_in l = (length l.tree.now - l.node) * 2

abbrev pub invariant-first_found-loop-child : goal.invariant-first_found-loop-child
invariant-first_found-loop-child l = record {
  items : l.child-items ≡ children_of l.tree l.fn.node;
  rest : first_found (source_of l.source) (value_forest (forest_of (tree_of l.tree) (drop l.child-index l.child-items)))
      ≡ first_found (source_of l.source) (value_forest (forest_of (tree_of l.tree) l.child-items));
}

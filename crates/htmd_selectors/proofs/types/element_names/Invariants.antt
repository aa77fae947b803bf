use Rattle.std.proofs.Common.{◌≡◌, ◌++◌, drop}
use Rattle.htmd_nodes.specs.Items.{children_of}
use Rattle.htmd_nodes.specs.NumberedTrees.{tree_of, forest_of, value_forest}
use Rattle.htmd_selectors.specs.SelectedParts.{element_names}
use Rattle.htmd_selectors.specs.TypeViews.{names_of}
use Rattle.htmd_selectors.proofs.types.element_names.Given as goal

abbrev pub invariant-loop-child : goal.invariant-loop-child
invariant-loop-child l = record {
  items : l.child-items ≡ children_of l.tree l.fn.node;
  rest : names_of l.names.items
      ++ element_names (value_forest (forest_of (tree_of l.tree) (drop l.child-index l.child-items)))
      ≡ element_names (value_forest (forest_of (tree_of l.tree) l.child-items));
}

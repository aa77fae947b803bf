-- What the loop of `push_outermost` keeps, and what goes down.
use Rattle.std.proofs.Common.{◌≡◌, ◌+◌, ◌-◌, ◌*◌, ◌≤◌, ◌++◌, length, vec_len, drop, eqb}
use Rattle.std.specs.Option.{option_copied}
use Rattle.htmd_nodes.specs.Items.{children_of, depth_at}
use Rattle.htmd_nodes.specs.Layout.{forest_items}
use Rattle.htmd_nodes.specs.NumberedTrees.{tree_of, forest_of, value_forest}
use Rattle.htmd_selectors.specs.ElementViews.{known_of}
use Rattle.htmd_selectors.specs.SelectedParts.{elements_in}
use Rattle.htmd_selectors.specs.SelectorStates.{first_known, outermost}
use Rattle.htmd_selectors.specs.Views.{pre_of, steps_of}
use Rattle.htmd_selectors.proofs.selection.+outermost.Given as goal

-- children come after their parent
abbrev pub decreases-push_outermost : goal.decreases-push_outermost
decreases-push_outermost l = (length l.page.now.tree.now - (l.node + 1)) * 2 + 1

abbrev pub decreases-push_outermost_child : goal.decreases-push_outermost_child
decreases-push_outermost_child l = (length l.page.now.tree.now - l.node) * 2

abbrev pub invariant-push_outermost-loop-child : goal.invariant-push_outermost-loop-child
invariant-push_outermost-loop-child l = record {
  items : l.child-items ≡ children_of l.page.tree.now l.fn.node;
  parent : length l.known.parent.now ≡ length l.page.steps.now;
  beside : vec_len l.known.beside ≡ length l.page.steps.now;
  before : l.known.before ≤ l.child-index;
  left : l.known.left
      ≡ elements_in (value_forest (forest_of (tree_of l.page.tree.now) (drop l.child-index l.child-items)));
  rest : l.out ++ forest_items 1 0 (length l.out)
      (outermost (steps_of l.page.steps.now) (pre_of (option_copied l.pre)) (known_of l.known)
      (value_forest (forest_of (tree_of l.page.tree.now) (drop l.child-index l.child-items))))
      ≡ l.fn.out ++ forest_items 1 0 (length l.fn.out) (outermost (steps_of l.page.steps.now)
      (pre_of (option_copied l.pre)) (first_known (steps_of l.page.steps.now) l.parent
      (eqb (depth_at l.page.tree.now l.fn.node) 0)
      (value_forest (forest_of (tree_of l.page.tree.now) l.child-items)))
      (value_forest (forest_of (tree_of l.page.tree.now) l.child-items)));
}

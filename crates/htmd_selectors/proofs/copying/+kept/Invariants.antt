-- What the loop of `push_kept` keeps, and what goes down.
use Rattle.std.proofs.Common.{◌≡◌, ◌+◌, ◌-◌, ◌*◌, ◌<◌, ◌≤◌, ◌++◌, length, vec_len, drop, eqb}
use Rattle.htmd_nodes.specs.Items.{children_of, depth_at, item_at}
use Rattle.htmd_nodes.specs.Layout.{forest_items}
use Rattle.htmd_nodes.specs.NumberedTrees.{tree_of, forest_of, value_forest}
use Rattle.htmd_selectors.specs.ElementViews.{known_of}
use Rattle.htmd_selectors.specs.SelectedParts.{elements_in}
use Rattle.htmd_selectors.specs.SelectorStates.{first_known, kept}
use Rattle.htmd_selectors.specs.Views.{steps_of}
use Rattle.htmd_selectors.proofs.copying.+kept.Given as goal

-- children come after their parent
abbrev pub decreases-push_kept : goal.decreases-push_kept
decreases-push_kept g l = (length l.page.now.tree.now - (l.node + 1)) * 2 + 1

abbrev pub decreases-push_kept_child : goal.decreases-push_kept_child
decreases-push_kept_child g l = (length l.page.now.tree.now - l.node) * 2

abbrev pub invariant-push_kept-loop-child : goal.invariant-push_kept-loop-child
invariant-push_kept-loop-child g l = record {
  items : l.child-items ≡ children_of l.page.tree.now l.fn.node;
  within : l.under < length l.out;
  same : item_at l.out l.under ≡ item_at l.fn.out l.under;
  parent : length l.known.parent.now ≡ length l.page.steps.now;
  beside : vec_len l.known.beside ≡ length l.page.steps.now;
  before : l.known.before ≤ l.child-index;
  left : l.known.left
      ≡ elements_in (value_forest (forest_of (tree_of l.page.tree.now) (drop l.child-index l.child-items)));
  rest : l.out ++ forest_items (depth_at l.fn.out l.under + 1) l.under (length l.out)
      (kept (g.R.Rewrite.rule l.page.rewrite.now) (steps_of l.page.steps.now) (known_of l.known)
      (value_forest (forest_of (tree_of l.page.tree.now) (drop l.child-index l.child-items))))
      ≡ l.fn.out ++ forest_items (depth_at l.fn.out l.under + 1) l.under (length l.fn.out)
      (kept (g.R.Rewrite.rule l.page.rewrite.now) (steps_of l.page.steps.now)
      (first_known (steps_of l.page.steps.now) l.parent (eqb (depth_at l.page.tree.now l.fn.node) 0)
      (value_forest (forest_of (tree_of l.page.tree.now) l.child-items)))
      (value_forest (forest_of (tree_of l.page.tree.now) l.child-items)));
}

use Rattle.std.proofs.Common.{◌≡◌, ◌+◌, ◌*◌, drop}
use Rattle.htmd_nodes.specs.NumberedTrees.{tree_of, forest_of, height, tallest}
use Rattle.htmd_shown.specs.LineNumbers.{hold_pre}
use Rattle.htmd_shown.proofs.page.+holds_pre.Given as goal

abbrev pub decreases-holds_pre : goal.decreases-holds_pre
decreases-holds_pre l = 2 * height (tree_of l.tree.now l.node)

abbrev pub decreases-hold_pre : goal.decreases-hold_pre
decreases-hold_pre l = 2 * tallest (forest_of (tree_of l.tree.now) l.nodes.now) + 1

-- the nodes to come decide
abbrev pub invariant-hold_pre-loop-node : goal.invariant-hold_pre-loop-node
invariant-hold_pre-loop-node l =
    hold_pre (forest_of (tree_of l.tree) l.nodes) ≡ hold_pre (forest_of (tree_of l.tree) (drop l.node-index l.nodes))

use Rattle.std.proofs.Common.{◌≡◌, ◌+◌, ◌*◌, ◌++◌, drop, string_bytes}
use Rattle.htmd_nodes.specs.NumberedTrees.{tree_of, forest_of, height, tallest}
use Rattle.htmd_shown.specs.Formulas.{raw_text_among}
use Rattle.htmd_shown.proofs.formula.+push_raw.Given as goal

abbrev pub decreases-push_raw : goal.decreases-push_raw
decreases-push_raw l = 2 * height (tree_of l.tree.now l.node)

abbrev pub decreases-push_raw_among : goal.decreases-push_raw_among
decreases-push_raw_among l = 2 * tallest (forest_of (tree_of l.tree.now) l.nodes.now) + 1

-- what was put, and what the nodes to come say
abbrev pub invariant-push_raw_among-loop-node : goal.invariant-push_raw_among-loop-node
invariant-push_raw_among-loop-node l =
    string_bytes l.out ++ raw_text_among (forest_of (tree_of l.tree) (drop l.node-index l.nodes))
    ≡ string_bytes l.initial.out ++ raw_text_among (forest_of (tree_of l.tree) l.nodes)

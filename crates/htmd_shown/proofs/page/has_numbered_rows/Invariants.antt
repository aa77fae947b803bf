use Rattle.std.proofs.Common.{◌≡◌, drop}
use Rattle.htmd_nodes.specs.NumberedTrees.{tree_of, forest_of}
use Rattle.htmd_shown.specs.LineNumbers.{has_numbered_rows}
use Rattle.htmd_shown.proofs.page.has_numbered_rows.Given as goal

-- the nodes to come decide
abbrev pub invariant-loop-node : goal.invariant-loop-node
invariant-loop-node l =
    has_numbered_rows (forest_of (tree_of l.tree) l.nodes)
    ≡ has_numbered_rows (forest_of (tree_of l.tree) (drop l.node-index l.nodes))

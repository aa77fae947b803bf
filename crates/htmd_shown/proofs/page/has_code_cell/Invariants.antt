use Rattle.std.proofs.Common.{◌≡◌, drop}
use Rattle.htmd_nodes.specs.NumberedTrees.{tree_of, forest_of}
use Rattle.htmd_shown.specs.LineNumbers.{has_code_cell}
use Rattle.htmd_shown.proofs.page.has_code_cell.Given as goal

-- the nodes to come decide
abbrev pub invariant-loop-node : goal.invariant-loop-node
invariant-loop-node l =
    has_code_cell (forest_of (tree_of l.tree) l.nodes)
    ≡ has_code_cell (forest_of (tree_of l.tree) (drop l.node-index l.nodes))

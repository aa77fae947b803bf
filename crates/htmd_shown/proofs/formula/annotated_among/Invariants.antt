use Rattle.std.proofs.Common.{◌≡◌, drop}
use Rattle.htmd_nodes.specs.NumberedTrees.{tree_of, forest_of}
use Rattle.htmd_shown.specs.Formulas.{annotated_among}
use Rattle.htmd_shown.proofs.formula.annotated_among.Given as goal

-- the nodes to come decide
abbrev pub invariant-loop-node : goal.invariant-loop-node
invariant-loop-node l =
    annotated_among (forest_of (tree_of l.tree) l.nodes)
    ≡ annotated_among (forest_of (tree_of l.tree) (drop l.node-index l.nodes))

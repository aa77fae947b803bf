use Rattle.std.proofs.Common.{◌≡◌, drop}
use Rattle.htmd_nodes.specs.NumberedTrees.{tree_of, forest_of}
use Rattle.htmd_trimming.specs.Formulas.{holds_math, is_formula}
use Rattle.htmd_trimming.proofs.formulas.is_formula.Given as goal

-- the nodes to come decide
abbrev pub invariant-loop-node : goal.invariant-loop-node
invariant-loop-node l =
    holds_math l.found (forest_of (tree_of l.tree) (drop l.node-index l.nodes))
    ≡ is_formula (forest_of (tree_of l.tree) l.nodes)

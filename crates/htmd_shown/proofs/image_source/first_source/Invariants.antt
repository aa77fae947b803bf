use Rattle.std.proofs.Common.{◌≡◌, drop}
use Rattle.htmd_nodes.specs.NumberedTrees.{tree_of, forest_of}
use Rattle.htmd_shown.specs.Images.{first_source}
use Rattle.htmd_shown.proofs.image_source.first_source.Given as goal

-- the nodes to come decide
abbrev pub invariant-loop-node : goal.invariant-loop-node
invariant-loop-node l =
    first_source (forest_of (tree_of l.tree) l.nodes)
    ≡ first_source (forest_of (tree_of l.tree) (drop l.node-index l.nodes))

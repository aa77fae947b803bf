use Rattle.std.proofs.Common.{◌≡◌, drop}
use Rattle.htmd_nodes.specs.NumberedTrees.{tree_of, forest_of}
use Rattle.htmd_shown.specs.Embeds.{source_place}
use Rattle.htmd_shown.proofs.embedded.source_place.Given as goal

-- the nodes to come decide
abbrev pub invariant-loop-node : goal.invariant-loop-node
invariant-loop-node l =
    source_place (forest_of (tree_of l.tree) l.nodes)
    ≡ source_place (forest_of (tree_of l.tree) (drop l.node-index l.nodes))

use Rattle.std.proofs.Common.{◌≡◌, drop, map}
use Rattle.htmd_nodes.specs.NumberedTrees.{tree_of, forest_of}
use Rattle.htmd_shown.specs.Repeats.{leads_to_script}
use Rattle.htmd_shown.proofs.repeats.leads_to_script.Given as goal

-- the nodes to come decide
abbrev pub invariant-loop-node : goal.invariant-loop-node
invariant-loop-node l =
    leads_to_script (map (λ n. n.now) l.skip) (forest_of (tree_of l.tree) l.nodes)
    ≡ leads_to_script (map (λ n. n.now) l.skip) (forest_of (tree_of l.tree) (drop l.node-index l.nodes))

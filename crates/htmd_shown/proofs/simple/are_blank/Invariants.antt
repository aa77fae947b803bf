use Rattle.std.proofs.Common.{◌≡◌, drop}
use Rattle.htmd_shown.specs.Kinds.{are_blank}
use Rattle.htmd_shown.specs.SimpleViews.{simples_of}
use Rattle.htmd_shown.proofs.simple.are_blank.Given as goal

-- the nodes to come decide
abbrev pub invariant-loop-node : goal.invariant-loop-node
invariant-loop-node l = are_blank (simples_of l.nodes) ≡ are_blank (simples_of (drop l.node-index l.nodes))

use Rattle.std.proofs.Common.{◌≡◌, drop, map}
use Rattle.htmd_flow.specs.Flows.{of_node}
use Rattle.htmd_flow.specs.FlowViews.{nodes_at}
use Rattle.htmd_flow.specs.TermViews.{with_parts}
use Rattle.htmd_flow.proofs.terms.TermKinds.with_nodes.Given as goal

abbrev pub invariant-loop-node : goal.invariant-loop-node
invariant-loop-node l =
    with_parts l.kinds (map of_node (nodes_at (drop l.node-index l.nodes)))
    ≡ with_parts l.fn.self (map of_node (nodes_at l.nodes))

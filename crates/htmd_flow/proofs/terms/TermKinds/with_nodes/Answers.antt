use Rattle.std.proofs.Common.{◌∙◌, ◌+◌, ◌∷◌, [], sym, ap, drop, map}
use Rattle.htmd_flow.specs.Flows.{of_node}
use Rattle.htmd_flow.specs.FlowViews.{node_at, nodes_at}
use Rattle.htmd_flow.specs.TermViews.{with_parts}
use Rattle.htmd_flow.proofs.LoopsLemmas.{at_place}
use Rattle.htmd_flow.proofs.ListsLemmas.{map_end}
use Rattle.htmd_flow.proofs.TermsLemmas.{kinds_step, kinds_none}
use Rattle.htmd_flow.proofs.terms.TermKinds.with_nodes.Goals as goal

pub loop-node-preserved : goal.loop-node-preserved
loop-node-preserved c =
    kinds_step c.loop-node.kinds c.with_node-kinds.result
    (map of_node (nodes_at (drop c.loop-node.node-index c.args.nodes.now)))
    (of_node (node_at c.node-item.result) ∷ [])
    (map of_node (nodes_at (drop (c.loop-node.node-index + 1) c.args.nodes.now)))
    c.with_node-kinds.ensures
    (ap (λ xs. map of_node (nodes_at xs)) (at_place c.args.nodes.now c.loop-node.node-index c.node-item.result
    c.loop-node-test.true c.node-item.is))
    ∙ c.loop-node.invariant

pub returns : goal.returns
returns c =
    kinds_none c.loop-node.kinds
    ∙ ap (λ ns. with_parts c.loop-node.kinds (map of_node ns)) (sym
    (map_end node_at c.args.nodes.now c.loop-node.node-index c.loop-node-test.false))
    ∙ c.loop-node.invariant

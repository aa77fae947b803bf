use Rattle.std.proofs.Common.{◌∙◌, ap, sym, false}
use Rattle.htmd_flow.specs.Contexts.{bare_in}
use Rattle.htmd_flow.specs.Flows as spec
use Rattle.htmd_flow.specs.FlowViews.{context_in, nodes_at}
use Rattle.htmd_flow.specs.Paragraphs.{fed_all, begun, blocks_in}
use Rattle.htmd_flow.proofs.FeedLemmas.{if_ok}
use Rattle.htmd_flow.proofs.NodesLemmas.{nodes_are}
use Rattle.htmd_flow.proofs.flow.document_of.Goals as goal

pub returns : goal.returns
returns c =
    let ns = nodes_at c.args.trees.now in
    if_ok c.finish.result _ _ c.finish.ensures (λ bs e. e
    ∙ ap blocks_in (c.in_ok-among.ensures.out
    ∙ ap (λ w. fed_all w (spec.flow_all ns (context_in c.bare.result c.new-around.result.items))) c.new-out.ensures
    ∙ ap (λ x. fed_all (begun false false) (spec.flow_all ns x))
    (ap (context_in c.bare.result) c.new-around.ensures.items ∙ c.bare.ensures))
    ∙ ap (λ xs. spec.blocks_of false (spec.flow_all xs (bare_in c.args.is_rich))) (sym (nodes_are c.args.trees.now)))

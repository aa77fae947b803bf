use Rattle.std.proofs.Common.{◌∙◌, ◌+◌, sym, ap, drop}
use Rattle.htmd_shown.specs.SimpleViews.{simple_of, simples_of}
use Rattle.htmd_flow.specs.Flows.{terms_of}
use Rattle.htmd_flow.specs.TermViews.{with_parts, parts_at}
use Rattle.htmd_flow.proofs.TermsLemmas.{kinds_step, kinds_none, terms_next, no_terms_left}
use Rattle.htmd_flow.proofs.terms.TermKinds.of.Goals as goal

pub loop-node-preserved : goal.loop-node-preserved
loop-node-preserved c =
    kinds_step c.loop-node.kinds c.with_part-kinds.result
    (terms_of (simples_of (drop c.loop-node.node-index c.args.content.now)))
    (parts_at (simple_of c.node-item.result))
    (terms_of (simples_of (drop (c.loop-node.node-index + 1) c.args.content.now)))
    c.with_part-kinds.ensures
    (terms_next c.args.content.now c.loop-node.node-index c.node-item.result c.loop-node-test.true c.node-item.is)
    ∙ c.loop-node.invariant

pub returns : goal.returns
returns c =
    kinds_none c.loop-node.kinds
    ∙ ap (with_parts c.loop-node.kinds)
    (sym (no_terms_left c.args.content.now c.loop-node.node-index c.loop-node-test.false))
    ∙ c.loop-node.invariant

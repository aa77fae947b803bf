use Rattle.std.proofs.Common.{◌∙◌, sym}
use Rattle.htmd_flow.specs.Terms.{is_term_or_meaning}
use Rattle.htmd_shown.specs.SimpleViews.{simple_of}
use Rattle.htmd_flow.proofs.LoopsLemmas.{any_passed, any_failed, any_done}
use Rattle.htmd_flow.proofs.terms.holds_terms.Goals as goal

pub returns-then-is_term_or_meaning : goal.returns-then-is_term_or_meaning
returns-then-is_term_or_meaning c =
    any_passed is_term_or_meaning simple_of c.args.content.now c.loop-node.node-index c.node-item.result _
    c.loop-node-test.true c.node-item.is (sym c.is_term_or_meaning.ensures ∙ c.if-is_term_or_meaning.true)
    c.loop-node.invariant

pub loop-node-preserved : goal.loop-node-preserved
loop-node-preserved c =
    any_failed is_term_or_meaning simple_of c.args.content.now c.loop-node.node-index c.node-item.result _
    c.loop-node-test.true c.node-item.is (sym c.is_term_or_meaning.ensures ∙ c.if-is_term_or_meaning.false)
    c.loop-node.invariant

pub returns : goal.returns
returns c =
    any_done is_term_or_meaning simple_of c.args.content.now c.loop-node.node-index _ c.loop-node-test.false
    c.loop-node.invariant

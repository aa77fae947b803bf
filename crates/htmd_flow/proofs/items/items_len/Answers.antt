use Rattle.std.proofs.Common.{◌∙◌, sym, arith}
use Rattle.htmd_flow.specs.ItemViews.{goes_on}
use Rattle.htmd_shown.specs.SimpleViews.{simple_of}
use Rattle.htmd_flow.proofs.LoopsLemmas.{prefix_passed, prefix_failed, prefix_done}
use Rattle.htmd_flow.proofs.items.items_len.Goals as goal

pub returns-then-not-goes_on-clause-value : goal.returns-then-not-goes_on-clause-value
returns-then-not-goes_on-clause-value c =
    prefix_failed goes_on simple_of c.args.nodes.now c.loop-len.len c.index-nodes-len.result _ (omega arith)
    c.index-nodes-len.is (sym c.goes_on.ensures ∙ c.if-not-goes_on.true) c.loop-len.invariant.value

pub loop-len-preserved : goal.loop-len-preserved
loop-len-preserved c =
    record {
      value = prefix_passed goes_on simple_of c.args.nodes.now c.loop-len.len c.index-nodes-len.result _ (omega arith)
          c.index-nodes-len.is (sym c.goes_on.ensures ∙ c.if-not-goes_on.false) c.loop-len.invariant.value;
      bound = omega arith;
    }

pub returns-clause-value : goal.returns-clause-value
returns-clause-value c =
    prefix_done goes_on simple_of c.args.nodes.now c.loop-len.len _ (omega arith) c.loop-len.invariant.bound
    c.loop-len.invariant.value

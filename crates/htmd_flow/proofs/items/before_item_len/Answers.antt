use Rattle.std.proofs.Common.{◌∙◌, sym, ap, not, arith}
use Rattle.htmd_flow.specs.ItemViews.{is_no_item}
use Rattle.htmd_shown.specs.SimpleViews.{simple_of}
use Rattle.htmd_flow.proofs.LoopsLemmas.{prefix_passed, prefix_failed, prefix_done}
use Rattle.htmd_flow.proofs.items.before_item_len.Goals as goal

pub returns-then-is_item-clause-value : goal.returns-then-is_item-clause-value
returns-then-is_item-clause-value c =
    prefix_failed is_no_item simple_of c.args.nodes.now c.loop-len.len c.index-nodes-len.result _ (omega arith)
    c.index-nodes-len.is (ap not (sym c.is_item.ensures ∙ c.if-is_item.true)) c.loop-len.invariant.value

pub loop-len-preserved : goal.loop-len-preserved
loop-len-preserved c =
    record {
      value = prefix_passed is_no_item simple_of c.args.nodes.now c.loop-len.len c.index-nodes-len.result _
          (omega arith)
          c.index-nodes-len.is (ap not (sym c.is_item.ensures ∙ c.if-is_item.false)) c.loop-len.invariant.value;
      bound = omega arith;
    }

pub returns-clause-value : goal.returns-clause-value
returns-clause-value c =
    prefix_done is_no_item simple_of c.args.nodes.now c.loop-len.len _ (omega arith) c.loop-len.invariant.bound
    c.loop-len.invariant.value

use Rattle.std.proofs.Common.{◌∙◌, sym, ap, not, arith}
use Rattle.htmd_flow.specs.TitleViews.{is_no_title}
use Rattle.htmd_shown.specs.SimpleViews.{simple_of}
use Rattle.htmd_flow.proofs.LoopsLemmas.{prefix_passed, prefix_failed, prefix_done}
use Rattle.htmd_flow.proofs.titles.before_title_len.Goals as goal

pub returns-then-is_title_of-clause-value : goal.returns-then-is_title_of-clause-value
returns-then-is_title_of-clause-value c =
    prefix_failed (is_no_title c.args.title) simple_of c.args.nodes.now c.loop-len.len c.index-nodes-len.result _
    (omega arith)
    c.index-nodes-len.is (ap not (sym c.is_title_of.ensures ∙ c.if-is_title_of.true)) c.loop-len.invariant.value

pub loop-len-preserved : goal.loop-len-preserved
loop-len-preserved c =
    record {
      value = prefix_passed (is_no_title c.args.title) simple_of c.args.nodes.now c.loop-len.len
          c.index-nodes-len.result _
          (omega arith)
          c.index-nodes-len.is (ap not (sym c.is_title_of.ensures ∙ c.if-is_title_of.false))
          c.loop-len.invariant.value;
      bound = omega arith;
    }

pub returns-clause-value : goal.returns-clause-value
returns-clause-value c =
    prefix_done (is_no_title c.args.title) simple_of c.args.nodes.now c.loop-len.len _ (omega arith)
    c.loop-len.invariant.bound
    c.loop-len.invariant.value

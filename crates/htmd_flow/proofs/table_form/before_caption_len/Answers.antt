use Rattle.std.proofs.Common.{◌∙◌, sym, ap, not, arith}
use Rattle.htmd_flow.specs.Tables.{is_no_caption}
use Rattle.htmd_shown.specs.SimpleViews.{simple_of}
use Rattle.htmd_flow.proofs.LoopsLemmas.{prefix_passed, prefix_failed, prefix_done}
use Rattle.htmd_flow.proofs.table_form.before_caption_len.Goals as goal

pub returns-then-is_caption-clause-value : goal.returns-then-is_caption-clause-value
returns-then-is_caption-clause-value c =
    prefix_failed is_no_caption simple_of c.args.table.now c.loop-len.len c.index-table-len.result _ (omega arith)
    c.index-table-len.is (ap not (sym c.is_caption.ensures ∙ c.if-is_caption.true)) c.loop-len.invariant.value

pub loop-len-preserved : goal.loop-len-preserved
loop-len-preserved c =
    record {
      value = prefix_passed is_no_caption simple_of c.args.table.now c.loop-len.len c.index-table-len.result _
          (omega arith)
          c.index-table-len.is (ap not (sym c.is_caption.ensures ∙ c.if-is_caption.false)) c.loop-len.invariant.value;
      bound = omega arith;
    }

pub returns-clause-value : goal.returns-clause-value
returns-clause-value c =
    prefix_done is_no_caption simple_of c.args.table.now c.loop-len.len _ (omega arith) c.loop-len.invariant.bound
    c.loop-len.invariant.value

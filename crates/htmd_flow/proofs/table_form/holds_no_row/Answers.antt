use Rattle.std.proofs.Common.{◌∙◌, sym, ap, not}
use Rattle.htmd_flow.specs.Tables.{is_no_row}
use Rattle.htmd_shown.specs.SimpleViews.{simple_of}
use Rattle.htmd_flow.proofs.LoopsLemmas.{all_passed, all_failed, all_done}
use Rattle.htmd_flow.proofs.table_form.holds_no_row.Goals as goal

pub returns-then-is_row_or_part : goal.returns-then-is_row_or_part
returns-then-is_row_or_part c =
    all_failed is_no_row simple_of c.args.nodes.now c.loop-node.node-index c.node-item.result _
    c.loop-node-test.true c.node-item.is (ap not (sym c.is_row_or_part.ensures ∙ c.if-is_row_or_part.true))
    c.loop-node.invariant

pub loop-node-preserved : goal.loop-node-preserved
loop-node-preserved c =
    all_passed is_no_row simple_of c.args.nodes.now c.loop-node.node-index c.node-item.result _
    c.loop-node-test.true c.node-item.is (ap not (sym c.is_row_or_part.ensures ∙ c.if-is_row_or_part.false))
    c.loop-node.invariant

pub returns : goal.returns
returns c =
    all_done is_no_row simple_of c.args.nodes.now c.loop-node.node-index _ c.loop-node-test.false c.loop-node.invariant

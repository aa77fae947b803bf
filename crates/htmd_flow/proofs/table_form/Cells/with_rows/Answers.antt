use Rattle.std.proofs.Common.{arith}
use Rattle.htmd_shown.specs.SimpleViews.{simple_of}
use Rattle.htmd_flow.specs.Tables.{with_row_at}
use Rattle.htmd_flow.proofs.LoopsLemmas.{fold_step, fold_end}
use Rattle.htmd_flow.proofs.table_form.Cells.with_rows.Goals as goal

pub loop-node-preserved : goal.loop-node-preserved
loop-node-preserved c =
    fold_step with_row_at simple_of c.args.nodes.now c.loop-node.node-index c.node-item.result c.loop-node.cells
    c.with_row_at-cells.result _ (omega arith) c.node-item.is c.with_row_at-cells.ensures c.loop-node.invariant

pub returns : goal.returns
returns c =
    fold_end with_row_at simple_of c.args.nodes.now c.loop-node.node-index
    c.loop-node.cells _ (omega arith) c.loop-node.invariant

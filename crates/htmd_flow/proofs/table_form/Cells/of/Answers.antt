use Rattle.std.proofs.Common.{arith}
use Rattle.htmd_shown.specs.SimpleViews.{simple_of}
use Rattle.htmd_flow.specs.Tables.{with_part}
use Rattle.htmd_flow.proofs.LoopsLemmas.{fold_step, fold_end}
use Rattle.htmd_flow.proofs.table_form.Cells.of.Goals as goal

pub loop-node-preserved : goal.loop-node-preserved
loop-node-preserved c =
    fold_step with_part simple_of c.args.table.now c.loop-node.node-index c.node-item.result c.loop-node.cells
    c.with_part-cells.result _ (omega arith) c.node-item.is c.with_part-cells.ensures c.loop-node.invariant

pub returns : goal.returns
returns c =
    fold_end with_part simple_of c.args.table.now c.loop-node.node-index
    c.loop-node.cells _ (omega arith) c.loop-node.invariant

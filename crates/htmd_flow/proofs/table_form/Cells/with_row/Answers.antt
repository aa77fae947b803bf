use Rattle.std.proofs.Common.{◌∙◌, ap, arith, ◌||◌, map}
use Rattle.std.specs.Prelude.{nat_lt}
use Rattle.htmd_shown.specs.SimpleViews.{simple_of}
use Rattle.htmd_flow.specs.declared.table_form.Cells.{Cells}
use Rattle.htmd_flow.specs.Tables.{with_cell_at, cells_len}
use Rattle.htmd_flow.proofs.LoopsLemmas.{fold_step, fold_end}
use Rattle.htmd_flow.proofs.table_form.Cells.with_row.Goals as goal

pub loop-node-preserved : goal.loop-node-preserved
loop-node-preserved c =
    fold_step with_cell_at simple_of c.args.row.now c.loop-node.node-index c.node-item.result c.loop-node.cells
    c.with_cell_at-cells.result _ (omega arith) c.node-item.is c.with_cell_at-cells.ensures c.loop-node.invariant

pub returns : goal.returns
returns c =
    ap (λ b. record c.loop-node.cells { is_wide = b }) c.is_wide_with.ensures
    ∙ ap (λ (cells : Cells).
    record cells { is_wide = c.args.self.is_wide || nat_lt 1 (cells_len (map simple_of c.args.row.now)) })
    (fold_end with_cell_at simple_of c.args.row.now c.loop-node.node-index c.loop-node.cells _ (omega arith)
    c.loop-node.invariant)

use Rattle.std.proofs.Common.{◌∙◌, sym}
use Rattle.htmd_flow.specs.ElementViews as views
use Rattle.htmd_flow.specs.TableElements as spec
use Rattle.htmd_flow.proofs.LoopsLemmas.{any_passed, any_failed, any_done}
use Rattle.htmd_flow.proofs.table_element.are_filled_cells.Goals as goal

pub returns-then-is_filled_cell : goal.returns-then-is_filled_cell
returns-then-is_filled_cell c =
    any_passed spec.is_filled_cell views.cell_of c.args.cells.now c.loop-cell.cell-index c.cell-item.result _
    c.loop-cell-test.true c.cell-item.is (sym c.is_filled_cell.ensures ∙ c.if-is_filled_cell.true)
    c.loop-cell.invariant

pub loop-cell-preserved : goal.loop-cell-preserved
loop-cell-preserved c =
    any_failed spec.is_filled_cell views.cell_of c.args.cells.now c.loop-cell.cell-index c.cell-item.result _
    c.loop-cell-test.true c.cell-item.is (sym c.is_filled_cell.ensures ∙ c.if-is_filled_cell.false)
    c.loop-cell.invariant

pub returns : goal.returns
returns c =
    any_done spec.is_filled_cell views.cell_of c.args.cells.now c.loop-cell.cell-index _ c.loop-cell-test.false
    c.loop-cell.invariant

use Rattle.std.proofs.Common.{◌∙◌, sym}
use Rattle.htmd_flow.specs.ElementViews as views
use Rattle.htmd_flow.specs.TableElements as spec
use Rattle.htmd_flow.proofs.LoopsLemmas.{all_passed, all_failed, all_done}
use Rattle.htmd_flow.proofs.table_element.are_paragraph_cells.Goals as goal

pub returns-then-not-is_paragraph_cell : goal.returns-then-not-is_paragraph_cell
returns-then-not-is_paragraph_cell c =
    all_failed spec.is_paragraph_cell views.cell_of c.args.cells.now c.loop-cell.cell-index c.cell-item.result _
    c.loop-cell-test.true c.cell-item.is (sym c.is_paragraph_cell.ensures ∙ c.if-not-is_paragraph_cell.true)
    c.loop-cell.invariant

pub loop-cell-preserved : goal.loop-cell-preserved
loop-cell-preserved c =
    all_passed spec.is_paragraph_cell views.cell_of c.args.cells.now c.loop-cell.cell-index c.cell-item.result _
    c.loop-cell-test.true c.cell-item.is (sym c.is_paragraph_cell.ensures ∙ c.if-not-is_paragraph_cell.false)
    c.loop-cell.invariant

pub returns : goal.returns
returns c =
    all_done spec.is_paragraph_cell views.cell_of c.args.cells.now c.loop-cell.cell-index _ c.loop-cell-test.false
    c.loop-cell.invariant

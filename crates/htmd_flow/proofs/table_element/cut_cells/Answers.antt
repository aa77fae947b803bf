-- No cell takes more than so many rows.
use Rattle.htmd_flow.specs.ElementViews as views
use Rattle.htmd_flow.specs.TableElements as spec
use Rattle.htmd_flow.proofs.CutsLemmas.{changed_step, all_changed, cell_cut}
use Rattle.htmd_flow.proofs.table_element.cut_cells.Goals as goal

pub loop-cell-preserved : goal.loop-cell-preserved
loop-cell-preserved c =
    changed_step (spec.cut_cell c.args.left) views.cell_of c.loop-cell.cells c.args.cells.now c.loop-cell.cell-index
    c.cell-item.result _ c.loop-cell-test.true c.cell-item.is
    (cell_cut c.args.left _ c.cell-item.result c.rows_within-cell.result c.cell-item.is c.rows_within-cell.ensures)
    c.loop-cell.invariant

pub returns : goal.returns
returns c =
    all_changed (spec.cut_cell c.args.left) views.cell_of c.loop-cell.cells c.args.cells.now c.loop-cell.cell-index
    c.loop-cell-test.false c.loop-cell.invariant

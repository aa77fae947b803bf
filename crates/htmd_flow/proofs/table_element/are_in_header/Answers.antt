use Rattle.std.proofs.Common.{◌∙◌, sym}
use Rattle.htmd_flow.specs.ElementViews as views
use Rattle.htmd_flow.specs.TableElements as spec
use Rattle.htmd_flow.proofs.LoopsLemmas.{all_passed, all_failed, all_done}
use Rattle.htmd_flow.proofs.table_element.are_in_header.Goals as goal

pub returns-then-not-is_in_header : goal.returns-then-not-is_in_header
returns-then-not-is_in_header c =
    all_failed spec.is_in_header views.cell_of c.args.cells.now c.loop-cell.cell-index c.cell-item.result _
    c.loop-cell-test.true c.cell-item.is (sym c.is_in_header.ensures ∙ c.if-not-is_in_header.true)
    c.loop-cell.invariant

pub loop-cell-preserved : goal.loop-cell-preserved
loop-cell-preserved c =
    all_passed spec.is_in_header views.cell_of c.args.cells.now c.loop-cell.cell-index c.cell-item.result _
    c.loop-cell-test.true c.cell-item.is (sym c.is_in_header.ensures ∙ c.if-not-is_in_header.false)
    c.loop-cell.invariant

pub returns : goal.returns
returns c =
    all_done spec.is_in_header views.cell_of c.args.cells.now c.loop-cell.cell-index _ c.loop-cell-test.false
    c.loop-cell.invariant

use Rattle.std.proofs.Common.{◌∙◌, sym}
use Rattle.htmd_shown.specs.SimpleViews.{simple_of}
use Rattle.htmd_flow.specs.PieceViews as views
use Rattle.htmd_shown.specs.Kinds.{holds}
use Rattle.htmd_flow.proofs.LoopsLemmas.{any_passed, any_failed, any_done}
use Rattle.htmd_flow.proofs.table_pieces.cells_hold_table.Goals as goal

pub returns-then-cell_holds_table : goal.returns-then-cell_holds_table
returns-then-cell_holds_table c =
    any_passed (views.cell_is (holds (λ f. f.holds_table))) simple_of c.args.row.now c.loop-node.node-index
    c.node-item.result _
    c.loop-node-test.true c.node-item.is (sym c.cell_holds_table.ensures ∙ c.if-cell_holds_table.true)
    c.loop-node.invariant

pub loop-node-preserved : goal.loop-node-preserved
loop-node-preserved c =
    any_failed (views.cell_is (holds (λ f. f.holds_table))) simple_of c.args.row.now c.loop-node.node-index
    c.node-item.result _
    c.loop-node-test.true c.node-item.is (sym c.cell_holds_table.ensures ∙ c.if-cell_holds_table.false)
    c.loop-node.invariant

pub returns : goal.returns
returns c =
    any_done (views.cell_is (holds (λ f. f.holds_table))) simple_of c.args.row.now c.loop-node.node-index _
    c.loop-node-test.false
    c.loop-node.invariant

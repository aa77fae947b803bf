use Rattle.std.proofs.Common.{◌∙◌, sym}
use Rattle.htmd_shown.specs.SimpleViews.{simple_of}
use Rattle.htmd_flow.specs.Flows as spec
use Rattle.htmd_flow.specs.PieceViews as views
use Rattle.htmd_flow.proofs.LoopsLemmas.{any_passed, any_failed, any_done}
use Rattle.htmd_flow.proofs.table_pieces.cells_show.Goals as goal

pub returns-then-cell_shows : goal.returns-then-cell_shows
returns-then-cell_shows c =
    any_passed (views.cell_is spec.content_shows) simple_of c.args.row.now c.loop-node.node-index c.node-item.result _
    c.loop-node-test.true c.node-item.is (sym c.cell_shows.ensures ∙ c.if-cell_shows.true) c.loop-node.invariant

pub loop-node-preserved : goal.loop-node-preserved
loop-node-preserved c =
    any_failed (views.cell_is spec.content_shows) simple_of c.args.row.now c.loop-node.node-index c.node-item.result _
    c.loop-node-test.true c.node-item.is (sym c.cell_shows.ensures ∙ c.if-cell_shows.false) c.loop-node.invariant

pub returns : goal.returns
returns c =
    any_done (views.cell_is spec.content_shows) simple_of c.args.row.now c.loop-node.node-index _ c.loop-node-test.false
    c.loop-node.invariant

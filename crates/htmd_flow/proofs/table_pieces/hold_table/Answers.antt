use Rattle.std.proofs.Common.{◌∙◌, sym}
use Rattle.htmd_flow.specs.PieceViews as views
use Rattle.htmd_flow.specs.Flows as spec
use Rattle.htmd_flow.proofs.LoopsLemmas.{any_passed, any_failed, any_done}
use Rattle.htmd_flow.proofs.table_pieces.hold_table.Goals as goal

pub returns-then-holds_table : goal.returns-then-holds_table
returns-then-holds_table c =
    any_passed spec.holds_table views.piece_of c.args.kept.now c.loop-piece.piece-index c.piece-item.result _
    c.loop-piece-test.true c.piece-item.is (sym c.holds_table.ensures ∙ c.if-holds_table.true) c.loop-piece.invariant

pub loop-piece-preserved : goal.loop-piece-preserved
loop-piece-preserved c =
    any_failed spec.holds_table views.piece_of c.args.kept.now c.loop-piece.piece-index c.piece-item.result _
    c.loop-piece-test.true c.piece-item.is (sym c.holds_table.ensures ∙ c.if-holds_table.false) c.loop-piece.invariant

pub returns : goal.returns
returns c =
    any_done spec.holds_table views.piece_of c.args.kept.now c.loop-piece.piece-index _ c.loop-piece-test.false
    c.loop-piece.invariant

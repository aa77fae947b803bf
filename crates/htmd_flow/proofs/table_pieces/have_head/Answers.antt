use Rattle.std.proofs.Common.{◌∙◌, sym}
use Rattle.htmd_flow.specs.PieceViews as views
use Rattle.htmd_flow.specs.Flows as spec
use Rattle.htmd_flow.proofs.LoopsLemmas.{any_passed, any_failed, any_done}
use Rattle.htmd_flow.proofs.table_pieces.have_head.Goals as goal

pub returns-then-heads : goal.returns-then-heads
returns-then-heads c =
    any_passed spec.heads views.piece_of c.args.kept.now c.loop-piece.piece-index c.piece-item.result _
    c.loop-piece-test.true c.piece-item.is (sym c.heads.ensures ∙ c.if-heads.true) c.loop-piece.invariant

pub loop-piece-preserved : goal.loop-piece-preserved
loop-piece-preserved c =
    any_failed spec.heads views.piece_of c.args.kept.now c.loop-piece.piece-index c.piece-item.result _
    c.loop-piece-test.true c.piece-item.is (sym c.heads.ensures ∙ c.if-heads.false) c.loop-piece.invariant

pub returns : goal.returns
returns c =
    any_done spec.heads views.piece_of c.args.kept.now c.loop-piece.piece-index _ c.loop-piece-test.false
    c.loop-piece.invariant

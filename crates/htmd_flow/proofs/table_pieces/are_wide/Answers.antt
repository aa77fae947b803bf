use Rattle.std.proofs.Common.{◌∙◌, sym}
use Rattle.htmd_flow.specs.PieceViews as views
use Rattle.htmd_flow.specs.Flows as spec
use Rattle.htmd_flow.proofs.LoopsLemmas.{any_passed, any_failed, any_done}
use Rattle.htmd_flow.proofs.table_pieces.are_wide.Goals as goal

pub returns-then-is_wide : goal.returns-then-is_wide
returns-then-is_wide c =
    any_passed spec.is_wide views.piece_of c.args.kept.now c.loop-piece.piece-index c.piece-item.result _
    c.loop-piece-test.true c.piece-item.is (sym c.is_wide.ensures ∙ c.if-is_wide.true) c.loop-piece.invariant

pub loop-piece-preserved : goal.loop-piece-preserved
loop-piece-preserved c =
    any_failed spec.is_wide views.piece_of c.args.kept.now c.loop-piece.piece-index c.piece-item.result _
    c.loop-piece-test.true c.piece-item.is (sym c.is_wide.ensures ∙ c.if-is_wide.false) c.loop-piece.invariant

pub returns : goal.returns
returns c =
    any_done spec.is_wide views.piece_of c.args.kept.now c.loop-piece.piece-index _ c.loop-piece-test.false
    c.loop-piece.invariant

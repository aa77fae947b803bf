use Rattle.std.proofs.Common.{◌∙◌, sym}
use Rattle.htmd_flow.specs.ElementViews as views
use Rattle.htmd_flow.specs.TableElements as spec
use Rattle.htmd_flow.proofs.LoopsLemmas.{any_passed, any_failed, any_done}
use Rattle.htmd_flow.proofs.table_element.are_filled_pieces.Goals as goal

pub returns-then-is_filled_piece : goal.returns-then-is_filled_piece
returns-then-is_filled_piece c =
    any_passed spec.is_filled_piece views.piece_of c.args.pieces.now c.loop-piece.piece-index c.piece-item.result _
    c.loop-piece-test.true c.piece-item.is (sym c.is_filled_piece.ensures ∙ c.if-is_filled_piece.true)
    c.loop-piece.invariant

pub loop-piece-preserved : goal.loop-piece-preserved
loop-piece-preserved c =
    any_failed spec.is_filled_piece views.piece_of c.args.pieces.now c.loop-piece.piece-index c.piece-item.result _
    c.loop-piece-test.true c.piece-item.is (sym c.is_filled_piece.ensures ∙ c.if-is_filled_piece.false)
    c.loop-piece.invariant

pub returns : goal.returns
returns c =
    any_done spec.is_filled_piece views.piece_of c.args.pieces.now c.loop-piece.piece-index _ c.loop-piece-test.false
    c.loop-piece.invariant

use Rattle.std.proofs.Common.{◌∙◌, sym}
use Rattle.htmd_flow.specs.ElementViews as views
use Rattle.htmd_flow.specs.TableElements as spec
use Rattle.htmd_flow.proofs.LoopsLemmas.{all_passed, all_failed, all_done}
use Rattle.htmd_flow.proofs.table_element.are_paragraphs.Goals as goal

pub returns-then-not-holds_paragraphs : goal.returns-then-not-holds_paragraphs
returns-then-not-holds_paragraphs c =
    all_failed spec.holds_paragraphs views.piece_of c.args.pieces.now c.loop-piece.piece-index c.piece-item.result _
    c.loop-piece-test.true c.piece-item.is (sym c.holds_paragraphs.ensures ∙ c.if-not-holds_paragraphs.true)
    c.loop-piece.invariant

pub loop-piece-preserved : goal.loop-piece-preserved
loop-piece-preserved c =
    all_passed spec.holds_paragraphs views.piece_of c.args.pieces.now c.loop-piece.piece-index c.piece-item.result _
    c.loop-piece-test.true c.piece-item.is (sym c.holds_paragraphs.ensures ∙ c.if-not-holds_paragraphs.false)
    c.loop-piece.invariant

pub returns : goal.returns
returns c =
    all_done spec.holds_paragraphs views.piece_of c.args.pieces.now c.loop-piece.piece-index _ c.loop-piece-test.false
    c.loop-piece.invariant

use Rattle.std.proofs.Common.{◌∙◌, sym}
use Rattle.htmd_flow.specs.ElementViews as views
use Rattle.htmd_flow.specs.TableElements as spec
use Rattle.htmd_flow.proofs.LoopsLemmas.{all_passed, all_failed, all_done}
use Rattle.htmd_flow.proofs.table_element.fit_below.Goals as goal

pub returns-then-not-fits_below : goal.returns-then-not-fits_below
returns-then-not-fits_below c =
    all_failed (spec.fits_below c.args.columns) views.piece_of c.args.pieces.now c.loop-piece.piece-index
    c.piece-item.result _
    c.loop-piece-test.true c.piece-item.is (sym c.fits_below.ensures ∙ c.if-not-fits_below.true)
    c.loop-piece.invariant

pub loop-piece-preserved : goal.loop-piece-preserved
loop-piece-preserved c =
    all_passed (spec.fits_below c.args.columns) views.piece_of c.args.pieces.now c.loop-piece.piece-index
    c.piece-item.result _
    c.loop-piece-test.true c.piece-item.is (sym c.fits_below.ensures ∙ c.if-not-fits_below.false)
    c.loop-piece.invariant

pub returns : goal.returns
returns c =
    all_done (spec.fits_below c.args.columns) views.piece_of c.args.pieces.now c.loop-piece.piece-index _
    c.loop-piece-test.false
    c.loop-piece.invariant

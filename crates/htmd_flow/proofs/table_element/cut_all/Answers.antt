-- No cell takes rows past its part of the table.
use Rattle.std.proofs.Common.{◌∙◌, ◌-◌, sym, ap, length-set, arith}
use Rattle.htmd_flow.specs.ElementViews as views
use Rattle.htmd_flow.specs.TableElements.{Stretch}
use Rattle.htmd_flow.proofs.CutsLemmas.{cut_more, stretch_more, rows_left, all_cut}
use Rattle.htmd_flow.proofs.table_element.cut_all.Goals as goal

pub reach-requires : goal.reach-requires
reach-requires c =
    let most = rows_left c.args.pieces.now c.loop-at.at (views.stretch_in c.loop-at.stretch)
    c.loop-at.invariant.stretch in
    omega (arith, most, c.loop-at-test.true)

pub loop-at-preserved : goal.loop-at-preserved
loop-at-preserved c =
    let init = c.args.pieces.now in
    let n = c.loop-at.at in
    let x = c.index-pieces-at.result in
    let y = c.index-pieces-at-in-loop-at.result in
    let s = views.stretch_in c.loop-at.stretch in
    let reached = c.reach.ensures
    ∙ ap (λ p. views.stretch_from (views.piece_of p) s) (sym c.index-pieces-at.is) in
    record {
      within = omega (arith, c.loop-at.invariant.within);
      size = length-set c.loop-at.pieces (n - 1) c.cut_piece.new.piece ∙ c.loop-at.invariant.size;
      stretch = reached ∙ stretch_more c.loop-at.pieces init (n - 1) n x s (omega (arith, c.loop-at-test.true))
          (omega (arith, c.loop-at-test.true, c.loop-at.invariant.within)) c.index-pieces-at.is
          c.loop-at.invariant.stretch c.loop-at.invariant.pieces;
      pieces = cut_more c.loop-at.pieces init (n - 1) n x y c.cut_piece.new.piece s c.reach.new.self.left
          (omega (arith, c.loop-at-test.true)) (omega (arith, c.loop-at-test.true, c.loop-at.invariant.within))
          c.loop-at.invariant.size c.index-pieces-at.is c.index-pieces-at-in-loop-at.is
          (ap (λ (u : Stretch). u.left) reached)
          (c.cut_piece.ensures ∙ ap (λ p. views.cut_in c.reach.new.self.left (views.piece_of p))
          (sym c.index-pieces-at-in-loop-at.is))
          c.loop-at.invariant.stretch c.loop-at.invariant.pieces;
    }

pub returns : goal.returns
returns c = all_cut c.loop-at.pieces c.args.pieces.now c.loop-at.at c.loop-at-test.false c.loop-at.invariant.pieces

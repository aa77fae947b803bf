use Rattle.std.proofs.Common.{◌+◌, ◌∷◌, ◌++◌, [], drop, filter, sym, ap, ◌∙◌}
use Rattle.std.proofs.lemmas.List.{map_push, drop_all}
use Rattle.htmd_flow.specs.Flows as spec
use Rattle.htmd_flow.specs.PieceViews as views
use Rattle.htmd_flow.proofs.TablePieceLemmas.{kept_next, kept_passed, pieces_step, pieces_done}
use Rattle.htmd_flow.proofs.table_pieces.kept_pieces.Goals as goal
use Rattle.htmd_flow.proofs.table_pieces.kept_pieces.Goals.{then-stays+in_ok-push, else-stays}

pub loop-piece-preserved : goal.loop-piece-preserved
loop-piece-preserved c =
    let ps = c.args.pieces.now in
    let k = c.loop-piece.piece-index in
    let p = c.piece-item.result in
    let stays = spec.stays c.args.has_spans in
    let rest = filter stays (views.pieces_in (drop (k + 1) ps)) in
    elim c.if-stays.branch [
      | then-stays+in_ok-push w ↦ ap (λ v. views.pieces_in v.items ++ rest) w.kept-is
          ∙ pieces_step (views.piece_of p ∷ []) (views.pieces_in c.loop-piece.kept.items)
          (views.pieces_in w.push.new.self.items) rest (filter stays (views.pieces_in (drop k ps))) _
          (ap views.pieces_in w.in_ok-push.ensures.items ∙ map_push views.piece_of c.loop-piece.kept.items p)
          (kept_next stays ps k p c.loop-piece-test.true c.piece-item.is (sym c.stays.ensures ∙ w.if-stays.true))
          c.loop-piece.invariant
      | else-stays w ↦ ap (λ v. views.pieces_in v.items ++ rest) w.kept-is
          ∙ sym (ap (λ xs. views.pieces_in c.loop-piece.kept.items ++ xs)
          (kept_passed stays ps k p c.loop-piece-test.true c.piece-item.is (sym c.stays.ensures ∙ w.if-stays.false)))
          ∙ c.loop-piece.invariant
    ]

pub returns : goal.returns
returns c =
    pieces_done (views.pieces_in c.loop-piece.kept.items)
    (filter (spec.stays c.args.has_spans) (views.pieces_in (drop c.loop-piece.piece-index c.args.pieces.now))) _
    (ap (λ xs. filter (spec.stays c.args.has_spans) (views.pieces_in xs))
    (drop_all c.loop-piece.piece-index c.args.pieces.now c.loop-piece-test.false))
    c.loop-piece.invariant

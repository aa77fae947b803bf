use Rattle.std.proofs.Common.{◌++◌, [], map, sym, ap, ◌∙◌}
use Rattle.std.proofs.lemmas.List.{append-nil}
use Rattle.htmd_shown.specs.SimpleViews.{simple_of}
use Rattle.htmd_flow.specs.Flows as spec
use Rattle.htmd_flow.specs.PieceViews as views
use Rattle.htmd_flow.proofs.FeedLemmas.{on_ok}
use Rattle.htmd_flow.proofs.TablePieceLemmas.{no_caption_at, pushed_caption, pushed_outside, row_is_other}
use Rattle.htmd_flow.proofs.TablePieceLemmas.{no_row_at, part_at}
use Rattle.htmd_flow.proofs.table_pieces.push_piece.Goals as goal

pub returns-then-is_caption : goal.returns-then-is_caption
returns-then-is_caption c =
    pushed_caption _ _ _ c.in_ok-push.ensures.items (sym c.is_caption.ensures ∙ c.if-is_caption.true)

pub returns-then-is_row : goal.returns-then-is_row
returns-then-is_row c =
    let is = sym c.is_row.ensures ∙ c.if-is_row.true in
    pushed_outside _ _ _ c.in_ok-push-2.ensures.items is (row_is_other (simple_of c.args.node.now) is).1

pub returns-then-not-is_part : goal.returns-then-not-is_part
returns-then-not-is_part c =
    let n = c.args.node.now in
    sym (append-nil (views.pieces_in c.args.pieces.now.items))
    ∙ ap (λ xs. views.pieces_in c.args.pieces.now.items ++ xs)
    (sym (no_caption_at n (spec.rows_at spec.no_part (simple_of n)) (sym c.is_caption.ensures ∙ c.if-is_caption.false)
    ∙ ap (map spec.of_row) (no_row_at n (sym c.is_row.ensures ∙ c.if-is_row.false)
    (sym c.is_part.ensures ∙ c.if-not-is_part.true))))

pub returns : goal.returns
returns c =
    let n = c.args.node.now in
    on_ok c.push_rows.result c.push_rows.ensures (λ e. e
    ∙ ap (λ xs. views.pieces_in c.args.pieces.now.items ++ xs)
    (ap (map spec.of_row) (sym (part_at n c.content_of.result.now (sym c.is_row.ensures ∙ c.if-is_row.false)
    (sym c.is_part.ensures ∙ c.if-not-is_part.false) c.content_of.ensures))
    ∙ sym (no_caption_at n (spec.rows_at spec.no_part (simple_of n))
    (sym c.is_caption.ensures ∙ c.if-is_caption.false))))

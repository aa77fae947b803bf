use Rattle.std.proofs.Common.{◌∙◌, ◌||◌, sym, ap, map}
use Rattle.std.specs.List.{list_any}
use Rattle.htmd_shown.specs.Kinds.{content_of}
use Rattle.htmd_shown.specs.Showings.{show}
use Rattle.htmd_shown.specs.SimpleViews.{simple_of}
use Rattle.std.proofs.Common.{false}
use Rattle.htmd_flow.specs.Flows as spec
use Rattle.htmd_flow.specs.PieceViews as views
use Rattle.htmd_flow.proofs.NodesLemmas.{tree_is}
use Rattle.htmd_flow.proofs.TablePieceLemmas.{content_any, piece_row, piece_caption}
use Rattle.htmd_flow.proofs.table_pieces.TablePiece.stays.Goals as goal

pub returns-then-is_caption : goal.returns-then-is_caption
returns-then-is_caption c =
    let p = c.args.self.now in
    c.show.ensures ∙ ap (show false) c.content_of.ensures
    ∙ ap (λ t. show false (content_of t)) (sym (tree_is (simple_of p.node.now)))
    ∙ ap (spec.stays c.args.has_spans) (piece_caption p (sym c.is_caption.ensures ∙ c.if-is_caption.true))

pub returns-else-has_spans : goal.returns-else-has_spans
returns-else-has_spans c =
    let p = c.args.self.now in
    let content = c.content_of-else-has_spans.result.now in
    c.cells_show.ensures
    ∙ sym (ap (λ b. b || list_any (views.cell_is spec.content_shows) (map simple_of content)) c.if-has_spans.false)
    ∙ ap (λ b. c.args.has_spans || b)
    (content_any spec.content_shows p.node.now content c.content_of-else-has_spans.ensures)
    ∙ ap (spec.stays c.args.has_spans) (piece_row p (sym c.is_caption.ensures ∙ c.if-is_caption.false))

use Rattle.std.proofs.Common.{◌∙◌, sym, ap}
use Rattle.htmd_flow.specs.Flows as spec
use Rattle.htmd_flow.specs.PieceViews as views
use Rattle.htmd_flow.proofs.TablePieceLemmas.{content_any, piece_row}
use Rattle.htmd_flow.proofs.table_pieces.TablePiece.may_span.Goals as goal

pub returns-then-not-is_caption : goal.returns-then-not-is_caption
returns-then-not-is_caption c =
    let p = c.args.self.now in
    c.may_span.ensures
    ∙ content_any spec.may_span p.node.now c.content_of.result.now c.content_of.ensures
    ∙ ap views.row_may_span (piece_row p (sym c.is_caption.ensures ∙ c.if-not-is_caption.true))

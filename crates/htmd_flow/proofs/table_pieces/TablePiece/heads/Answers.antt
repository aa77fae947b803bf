use Rattle.std.proofs.Common.{◌∙◌, sym, ap, map}
use Rattle.std.specs.List.{list_any}
use Rattle.htmd_shown.specs.SimpleViews.{simple_of}
use Rattle.htmd_flow.specs.Flows as spec
use Rattle.htmd_flow.specs.PieceViews as views
use Rattle.htmd_flow.proofs.TablePieceLemmas.{content_any, piece_row}
use Rattle.htmd_flow.proofs.table_pieces.TablePiece.heads.Goals as goal

pub returns-else-is_caption : goal.returns-else-is_caption
returns-else-is_caption c =
    let p = c.args.self.now in
    let content = c.content_of.result.now in
    c.has_header.ensures
    ∙ ap (λ q. list_any (views.cell_is (spec.is_header q.is_head)) (map simple_of content)) c.part.ensures
    ∙ content_any (spec.is_header (views.part_in p).is_head) p.node.now content c.content_of.ensures
    ∙ ap spec.heads (piece_row p (sym c.is_caption.ensures ∙ c.if-is_caption.false))

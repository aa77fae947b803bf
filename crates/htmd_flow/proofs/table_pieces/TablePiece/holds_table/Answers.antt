use Rattle.std.proofs.Common.{◌∙◌, sym, ap}
use Rattle.htmd_shown.specs.Kinds.{holds}
use Rattle.htmd_flow.specs.Flows as spec
use Rattle.htmd_flow.proofs.TablePieceLemmas.{content_any, piece_row}
use Rattle.htmd_flow.proofs.table_pieces.TablePiece.holds_table.Goals as goal

pub returns-then-not-is_caption : goal.returns-then-not-is_caption
returns-then-not-is_caption c =
    let p = c.args.self.now in
    c.cells_hold_table.ensures
    ∙ content_any (holds (λ f. f.holds_table)) p.node.now c.content_of.result.now c.content_of.ensures
    ∙ ap spec.holds_table (piece_row p (sym c.is_caption.ensures ∙ c.if-not-is_caption.true))

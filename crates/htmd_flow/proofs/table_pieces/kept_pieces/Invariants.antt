use Rattle.std.proofs.Common.{◌≡◌, ◌++◌, drop, filter}
use Rattle.htmd_flow.specs.Flows as spec
use Rattle.htmd_flow.specs.PieceViews as views
use Rattle.htmd_flow.proofs.table_pieces.kept_pieces.Given as goal

abbrev pub invariant-loop-piece : goal.invariant-loop-piece
invariant-loop-piece l =
    views.pieces_in l.kept.items ++ filter (spec.stays l.has_spans) (views.pieces_in (drop l.piece-index l.pieces))
    ≡ filter (spec.stays l.has_spans) (views.pieces_in l.pieces)

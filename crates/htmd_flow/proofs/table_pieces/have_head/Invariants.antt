use Rattle.std.proofs.Common.{◌≡◌, drop, map}
use Rattle.std.specs.List.{list_any}
use Rattle.htmd_flow.specs.PieceViews as views
use Rattle.htmd_flow.specs.Flows as spec
use Rattle.htmd_flow.proofs.table_pieces.have_head.Given as goal

abbrev pub invariant-loop-piece : goal.invariant-loop-piece
invariant-loop-piece l =
    list_any spec.heads (map views.piece_of (drop l.piece-index l.kept))
    ≡ list_any spec.heads (map views.piece_of l.kept)

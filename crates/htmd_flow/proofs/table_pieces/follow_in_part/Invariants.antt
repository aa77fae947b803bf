use Rattle.std.proofs.Common.{◌≡◌, drop}
use Rattle.htmd_flow.specs.Flows as spec
use Rattle.htmd_flow.specs.PieceViews as views
use Rattle.htmd_flow.proofs.table_pieces.follow_in_part.Given as goal

abbrev pub invariant-loop-piece : goal.invariant-loop-piece
invariant-loop-piece l =
    spec.follows_in_part (views.part_in l.row).id (spec.rows_in (views.pieces_in (drop l.piece-index l.pieces)))
    ≡ spec.follows_in_part (views.part_in l.row).id (spec.rows_in (views.pieces_in l.pieces))

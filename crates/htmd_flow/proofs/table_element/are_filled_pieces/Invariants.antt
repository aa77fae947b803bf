use Rattle.std.proofs.Common.{◌≡◌, drop, map}
use Rattle.std.specs.List.{list_any}
use Rattle.htmd_flow.specs.ElementViews as views
use Rattle.htmd_flow.specs.TableElements as spec
use Rattle.htmd_flow.proofs.table_element.are_filled_pieces.Given as goal

abbrev pub invariant-loop-piece : goal.invariant-loop-piece
invariant-loop-piece l =
    list_any spec.is_filled_piece (map views.piece_of (drop l.piece-index l.pieces))
    ≡ list_any spec.is_filled_piece (map views.piece_of l.pieces)

use Rattle.std.proofs.Common.{◌≡◌, ◌≤◌, ◌-◌, drop, length}
use Rattle.htmd_flow.specs.Flows as spec
use Rattle.htmd_flow.specs.PieceViews as views
use Rattle.htmd_flow.proofs.table_pieces.have_row_spans.Given as goal

abbrev pub invariant-loop-at : goal.invariant-loop-at
invariant-loop-at l = record {
  spans : spec.have_row_spans (spec.rows_in (views.pieces_in (drop l.at l.pieces)))
      ≡ spec.have_row_spans (spec.rows_in (views.pieces_in l.pieces));
  bound : l.at ≤ length l.pieces;
}

abbrev pub decreases-loop-at : goal.decreases-loop-at
decreases-loop-at l = length l.pieces - l.at

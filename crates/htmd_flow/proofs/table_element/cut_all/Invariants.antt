use Rattle.std.proofs.Common.{◌≡◌, ◌≤◌, length, drop}
use Rattle.htmd_flow.specs.ElementViews as views
use Rattle.htmd_flow.specs.TableElements as spec
use Rattle.htmd_flow.proofs.CutsLemmas.{AreCut}
use Rattle.htmd_flow.proofs.table_element.cut_all.Given as goal

abbrev pub invariant-loop-at : goal.invariant-loop-at
invariant-loop-at l = record {
  within : l.at ≤ length l.initial.pieces;
  size : length l.pieces ≡ length l.initial.pieces;
  stretch : views.stretch_in l.stretch ≡ spec.stretch_of (views.pieces_in (drop l.at l.initial.pieces));
  pieces : AreCut l.at l.pieces l.initial.pieces;
}

abbrev pub decreases-loop-at : goal.decreases-loop-at
decreases-loop-at l = l.at

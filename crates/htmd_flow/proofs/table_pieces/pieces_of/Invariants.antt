use Rattle.std.proofs.Common.{◌≡◌, ◌++◌, drop}
use Rattle.htmd_flow.specs.Flows as spec
use Rattle.htmd_flow.specs.PieceViews as views
use Rattle.htmd_shown.specs.SimpleViews.{simples_of}
use Rattle.htmd_flow.proofs.table_pieces.pieces_of.Given as goal

abbrev pub invariant-loop-node : goal.invariant-loop-node
invariant-loop-node l =
    views.pieces_in l.pieces.items ++ spec.pieces_of (simples_of (drop l.node-index l.table))
    ≡ spec.pieces_of (simples_of l.table)

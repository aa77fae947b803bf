use Rattle.std.proofs.Common.{◌≡◌, ◌++◌, map, drop}
use Rattle.htmd_flow.specs.Flows as spec
use Rattle.htmd_flow.specs.PieceViews as views
use Rattle.htmd_shown.specs.SimpleViews.{simple_of, simples_of}
use Rattle.htmd_flow.proofs.table_pieces.push_rows.Given as goal

-- the rows so far, with those to come
abbrev pub invariant-loop-node : goal.invariant-loop-node
invariant-loop-node l =
    views.pieces_in l.pieces.items
    ++ map spec.of_row (spec.rows_among (spec.part_of (simple_of l.part)) (simples_of (drop l.node-index l.nodes)))
    ≡ views.pieces_in l.initial.pieces.items
    ++ map spec.of_row (spec.rows_among (spec.part_of (simple_of l.part)) (simples_of l.nodes))

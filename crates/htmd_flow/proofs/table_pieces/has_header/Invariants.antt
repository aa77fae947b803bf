use Rattle.std.proofs.Common.{◌≡◌, drop, map}
use Rattle.std.specs.List.{list_any}
use Rattle.htmd_shown.specs.SimpleViews.{simple_of}
use Rattle.htmd_flow.specs.Flows as spec
use Rattle.htmd_flow.specs.PieceViews as views
use Rattle.htmd_flow.proofs.table_pieces.has_header.Given as goal

abbrev pub invariant-loop-node : goal.invariant-loop-node
invariant-loop-node l =
    list_any (views.cell_is (spec.is_header l.is_in_head)) (map simple_of (drop l.node-index l.row))
    ≡ list_any (views.cell_is (spec.is_header l.is_in_head)) (map simple_of l.row)

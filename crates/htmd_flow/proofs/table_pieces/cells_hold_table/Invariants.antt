use Rattle.std.proofs.Common.{◌≡◌, drop, map}
use Rattle.std.specs.List.{list_any}
use Rattle.htmd_shown.specs.SimpleViews.{simple_of}
use Rattle.htmd_flow.specs.PieceViews as views
use Rattle.htmd_shown.specs.Kinds.{holds}
use Rattle.htmd_flow.proofs.table_pieces.cells_hold_table.Given as goal

abbrev pub invariant-loop-node : goal.invariant-loop-node
invariant-loop-node l =
    list_any (views.cell_is (holds (λ f. f.holds_table))) (map simple_of (drop l.node-index l.row))
    ≡ list_any (views.cell_is (holds (λ f. f.holds_table))) (map simple_of l.row)

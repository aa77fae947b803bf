use Rattle.std.proofs.Common.{◌≡◌, drop, map}
use Rattle.std.specs.Prelude.{fold}
use Rattle.htmd_shown.specs.SimpleViews.{simple_of}
use Rattle.htmd_flow.specs.Tables.{with_cell_at}
use Rattle.htmd_flow.proofs.table_form.Cells.with_row.Given as goal

abbrev pub invariant-loop-node : goal.invariant-loop-node
invariant-loop-node l =
    fold with_cell_at l.cells (map simple_of (drop l.node-index l.row))
    ≡ fold with_cell_at l.self (map simple_of l.row)

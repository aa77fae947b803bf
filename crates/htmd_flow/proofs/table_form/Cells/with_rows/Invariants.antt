use Rattle.std.proofs.Common.{◌≡◌, drop, map}
use Rattle.std.specs.Prelude.{fold}
use Rattle.htmd_shown.specs.SimpleViews.{simple_of}
use Rattle.htmd_flow.specs.Tables.{with_row_at}
use Rattle.htmd_flow.proofs.table_form.Cells.with_rows.Given as goal

abbrev pub invariant-loop-node : goal.invariant-loop-node
invariant-loop-node l =
    fold with_row_at l.cells (map simple_of (drop l.node-index l.nodes))
    ≡ fold with_row_at l.fn.self (map simple_of l.nodes)

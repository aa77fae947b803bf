use Rattle.std.proofs.Common.{◌≡◌, drop, map}
use Rattle.std.specs.Prelude.{fold}
use Rattle.htmd_shown.specs.SimpleViews.{simple_of}
use Rattle.htmd_flow.specs.Tables.{with_part, cells_in}
use Rattle.htmd_flow.proofs.table_form.Cells.of.Given as goal

abbrev pub invariant-loop-node : goal.invariant-loop-node
invariant-loop-node l =
    fold with_part l.cells (map simple_of (drop l.node-index l.table)) ≡ cells_in (map simple_of l.table)

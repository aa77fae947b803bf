use Rattle.std.proofs.Common.{◌≡◌, ◌+◌, ◌≤◌, drop, map}
use Rattle.htmd_shown.specs.SimpleViews.{simple_of}
use Rattle.htmd_flow.specs.Tables.{cells_len}
use Rattle.htmd_flow.proofs.table_form.cells_len.Given as goal

abbrev pub invariant-loop-node : goal.invariant-loop-node
invariant-loop-node l = record {
  value : l.count + cells_len (map simple_of (drop l.node-index l.row)) ≡ cells_len (map simple_of l.row);
  bound : l.count ≤ l.node-index;
}

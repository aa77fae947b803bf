use Rattle.std.proofs.Common.{◌≡◌, ◌+◌, ◌≤◌, drop, map, length}
use Rattle.std.specs.List.{prefix_len}
use Rattle.htmd_flow.specs.Tables.{is_no_row}
use Rattle.htmd_shown.specs.SimpleViews.{simple_of}
use Rattle.htmd_flow.proofs.table_form.before_row_len.Given as goal

abbrev pub invariant-loop-len : goal.invariant-loop-len
invariant-loop-len l = record {
  bound : l.len ≤ length l.table;
  value : l.len + prefix_len is_no_row (map simple_of (drop l.len l.table))
      ≡ prefix_len is_no_row (map simple_of l.table);
}

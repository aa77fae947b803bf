-- Not too many cells, and as many missing ones as before.
use Rattle.std.proofs.Common.{◌≡◌, ◌≤◌, ◌-◌, length}
use Rattle.htmd_commonmark_reading.specs.Tables.{cells, fitted}
use Rattle.htmd_commonmark_reader.specs.Rows.{strings}
use Rattle.htmd_commonmark_reader.proofs.tables.fitted_cells.Given as goal

abbrev pub invariant-loop-alloc : goal.invariant-loop-alloc
invariant-loop-alloc l = record {
  within : length l.row.items ≤ l.count;
  same : fitted l.count (strings l.row.items) ≡ fitted l.count (cells l.text);
}

abbrev pub decreases-loop-alloc : goal.decreases-loop-alloc
decreases-loop-alloc l = l.count - length l.row.items

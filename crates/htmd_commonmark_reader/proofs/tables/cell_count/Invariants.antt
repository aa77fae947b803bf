-- The cells so far, and those of the rest.
use Rattle.std.proofs.Common.{◌≡◌, ◌≤◌, ◌+◌, length}
use Rattle.htmd_commonmark_reading.specs.Tables.{cells}
use Rattle.htmd_commonmark_reader.specs.Rows.{raw_cells, rest_size}
use Rattle.htmd_commonmark_reader.proofs.tables.cell_count.Given as goal
use denote.Shadow.{shadow}
use denote.Text.{Utf8}

abbrev pub invariant-loop-raw : goal.invariant-loop-raw
invariant-loop-raw l = record {
  text : shadow (Utf8 l.rest);
  few : l.count + rest_size l.more l.rest ≤ length l.text + 1;
  reads : l.count + length (raw_cells l.more l.rest) ≡ length (cells l.text);
}

abbrev pub decreases-loop-raw : goal.decreases-loop-raw
decreases-loop-raw l = rest_size l.more l.rest

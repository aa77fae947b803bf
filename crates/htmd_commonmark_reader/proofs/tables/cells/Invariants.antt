-- The cells so far, and those of the rest.
use Rattle.std.proofs.Common.{◌≡◌, ◌++◌}
use Rattle.htmd_commonmark_reading.specs.Tables.{cell_texts, cells}
use Rattle.htmd_commonmark_reader.specs.Rows.{raw_cells, rest_size, strings}
use Rattle.htmd_commonmark_reader.proofs.tables.cells.Given as goal
use denote.Shadow.{shadow}
use denote.Text.{Utf8}

abbrev pub invariant-loop-raw : goal.invariant-loop-raw
invariant-loop-raw l = record {
  text : shadow (Utf8 l.rest);
  reads : strings l.cells.items ++ cell_texts (raw_cells l.more l.rest) ≡ cells l.text;
}

abbrev pub decreases-loop-raw : goal.decreases-loop-raw
decreases-loop-raw l = rest_size l.more l.rest

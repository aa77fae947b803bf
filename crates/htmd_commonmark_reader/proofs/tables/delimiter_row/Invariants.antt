-- The alignments so far, and those of the rest.
use Rattle.std.proofs.Common.{◌≡◌}
use Rattle.htmd_commonmark_reading.specs.Tables.{alignments_of, cell_texts, delimiter_row}
use Rattle.htmd_commonmark_reader.specs.Rows.{all_aligned, raw_cells, rest_size}
use Rattle.htmd_commonmark_reader.proofs.tables.delimiter_row.Given as goal
use denote.Shadow.{shadow}
use denote.Text.{Utf8}

abbrev pub invariant-loop-raw : goal.invariant-loop-raw
invariant-loop-raw l = record {
  text : shadow (Utf8 l.rest);
  reads : all_aligned l.alignments.items (alignments_of (cell_texts (raw_cells l.more l.rest)))
      ≡ delimiter_row l.text;
}

abbrev pub decreases-loop-raw : goal.decreases-loop-raw
decreases-loop-raw l = rest_size l.more l.rest

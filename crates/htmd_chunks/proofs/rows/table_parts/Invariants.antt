-- The parts so far, and the rows that are left.
use Rattle.std.proofs.Common.{◌≡◌, drop, map, take}
use Rattle.std.specs.Vec.Iter.{into_iter_items}
use Rattle.htmd_commonmark.specs.BlockViews.{cells_of, rows_of}
use Rattle.htmd_document.specs.Documents as value
use Rattle.htmd_document.specs.DocumentViews.{block_of}
use Rattle.htmd_chunks.specs.Rows.{table_parts}
use Rattle.htmd_chunks.specs.Runs.{together}
use Rattle.htmd_chunks.proofs.rows.table_parts.Given as goal

abbrev pub invariant-loop-count : goal.invariant-loop-count
invariant-loop-count l =
    let header = cells_of l.header.items in
    let all = table_parts l.bounds l.fn.margin l.fn.first l.alignments.items header (rows_of l.fn.rows.items) in
    record {
      parts : map block_of l.parts.items
          ≡ map (value.table l.alignments.items header) (take l.count-index all);
      rest : rows_of (into_iter_items l.rows) ≡ together (drop l.count-index all);
    }

-- The rows of the part that is begun, and with the rows to come all parts.
use Rattle.std.proofs.Common.{◌≡◌, ◌++◌, List, drop, length, map}
use Rattle.htmd_commonmark.specs.BlockViews.{cells_of, rows_of}
use Rattle.htmd_document.specs.Documents.{Inlines}
use Rattle.htmd_chunks.specs.RowViews.{run_of}
use Rattle.htmd_chunks.specs.Rows.{cell_texts, rows_cost, table_parts}
use Rattle.htmd_chunks.specs.Runs.{runs_from}
use Rattle.htmd_chunks.proofs.RowsLemmas.{run_over}
use Rattle.htmd_chunks.proofs.rows.row_counts.Given as goal

abbrev pub invariant-loop-row : goal.invariant-loop-row
invariant-loop-row l =
    let options = l.bounds.options in
    let header = cells_of l.fn.header in
    let rest = rows_of (drop l.row-index l.rows) in
    record {
      begun : List (List Inlines);
      count : l.count ≡ length begun;
      run : run_of l.run ≡ run_over (cell_texts options header) (map (cell_texts options) begun);
      rest : l.counts.items
          ++ map (λ rows. length rows) (runs_from (rows_cost options l.margin l.alignments header) l.bounds.most l.free
          begun rest)
          ≡ map (λ rows. length rows) (table_parts l.bounds l.margin l.first l.alignments header (rows_of l.rows));
    }

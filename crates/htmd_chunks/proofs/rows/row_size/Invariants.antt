-- The cells so far.
use Rattle.std.proofs.Common.{◌≡◌, length, map, take}
use Rattle.std.specs.List.{sum_by}
use Rattle.htmd_commonmark.specs.BlockViews.{cells_of}
use Rattle.htmd_commonmark.specs.Columns.{width_of}
use Rattle.htmd_chunks.specs.Rows.{cell_texts}
use Rattle.htmd_chunks.proofs.rows.row_size.Given as goal

abbrev pub invariant-loop-cell : goal.invariant-loop-cell
invariant-loop-cell l =
    let texts = cell_texts l.options (cells_of (take l.cell-index l.cells)) in
    record {
      widths : l.widths.items ≡ map width_of texts;
      bytes : l.bytes ≡ sum_by length texts;
    }

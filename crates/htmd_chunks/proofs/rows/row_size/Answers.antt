-- The cells that are measured are the first ones.
use Rattle.std.proofs.Common.{length, map, take, ap, ◌∙◌}
use Rattle.std.specs.List.{sum_by}
use Rattle.htmd_commonmark.specs.BlockViews.{cells_of}
use Rattle.htmd_commonmark.specs.Columns.{width_of}
use Rattle.htmd_chunks.specs.Rows.{cell_texts}
use Rattle.htmd_chunks.proofs.RowsLemmas.{first-cells, size-is}
use Rattle.htmd_chunks.proofs.rows.row_size.Goals as goal

pub returns : goal.returns
returns c =
    let options = c.args.options.now in
    let cells = c.args.cells.now in
    let all = first-cells options cells c.args.columns c.min-count.result c.loop-cell.cell-index c.min-count.ensures
    c.loop-cell-test.false c.loop-cell.auto.cell-index-end in
    size-is c.loop-cell.widths.items c.loop-cell.bytes (take c.args.columns (cell_texts options (cells_of cells)))
    (c.loop-cell.invariant.widths ∙ ap (map width_of) all)
    (c.loop-cell.invariant.bytes ∙ ap (sum_by length) all)

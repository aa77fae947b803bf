-- The header with the first row, or alone.
use Rattle.std.proofs.Common.{◌≡◌, ◌∷◌, [], length, map, take, ap, ◌∙◌}
use Rattle.htmd_commonmark.specs.BlockViews.{cells_of}
use Rattle.htmd_chunks.specs.RowViews.{measured, run_cost, run_of, size_of}
use Rattle.htmd_chunks.specs.Rows.{cell_texts, rows_cost}
use Rattle.htmd_chunks.proofs.MeasuresLemmas.{if-ok}
use Rattle.htmd_chunks.proofs.RowPartsLemmas.{header-alone, row-more, cost-is, columns-are, first-row, no-row}
use Rattle.htmd_chunks.proofs.RowsLemmas.{run_over}
use Rattle.htmd_chunks.proofs.rows.least_rows.Goals as goal

pub returns-in-Some : goal.returns-in-Some
returns-in-Some c =
    let options = c.args.bounds.now.options in
    let m = c.args.margin in
    let alignments = c.args.alignments.now in
    let head = cells_of c.args.header.now in
    let header = cell_texts options head in
    let columns = columns-are options c.args.header.now in
    let row = c.in-Some.row.now in
    let x = cells_of row.items in
    let alone = header-alone header (size_of c.in_ok-row_size.field-0) (run_of c.in_ok-none.none)
    (c.in_ok-row_size.ensures ∙ ap (λ n. measured (take n header)) columns) c.in_ok-none.ensures in
    let size : size_of c.in_ok-row-in-Some.row ≡ measured (take (length header) (cell_texts options x)) =
    c.in_ok-row-in-Some.ensures
    ∙ ap (λ n. measured (take n (cell_texts options (cells_of c.deref.result.now)))) columns
    ∙ ap (λ l. measured (take (length header) (cell_texts options (cells_of l)))) c.deref.ensures.value in
    let run : run_of c.in_ok-with_row-in-Some.field-0 ≡ run_over header (map (cell_texts options) (x ∷ [])) =
    row-more header [] (cell_texts options x) (size_of c.in_ok-row-in-Some.row) (run_of c.in_ok-none.none)
    (run_of c.in_ok-with_row-in-Some.field-0) alone size c.in_ok-with_row-in-Some.ensures in
    if-ok c.cost.result c.cost.ensures (λ bytes is.
    is ∙ ap (run_cost m (length alignments)) run ∙ cost-is options m alignments head (x ∷ [])
    ∙ ap (rows_cost options m alignments head) (first-row c.args.rows.now row c.in-Some.ensures.value))

pub returns : goal.returns
returns c =
    let options = c.args.bounds.now.options in
    let m = c.args.margin in
    let alignments = c.args.alignments.now in
    let head = cells_of c.args.header.now in
    let header = cell_texts options head in
    let columns = columns-are options c.args.header.now in
    let alone = header-alone header (size_of c.in_ok-row_size.field-0) (run_of c.in_ok-none.none)
    (c.in_ok-row_size.ensures ∙ ap (λ n. measured (take n header)) columns) c.in_ok-none.ensures in
    if-ok c.cost-in-None.result c.cost-in-None.ensures (λ bytes is.
    is ∙ ap (run_cost m (length alignments)) alone ∙ cost-is options m alignments head []
    ∙ ap (rows_cost options m alignments head) (no-row c.args.rows.now c.in-None.ensures.value))

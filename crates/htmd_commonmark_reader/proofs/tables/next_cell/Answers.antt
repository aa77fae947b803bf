-- One more cell, or a blank one at the end.
use Rattle.std.proofs.Common.{◌∙◌, sym, ap}
use Rattle.htmd_commonmark_reader.specs.Rows.{raw_cells}
use Rattle.htmd_commonmark_reader.proofs.RowsLemmas.{row_next, row_none}
use Rattle.htmd_commonmark_reader.proofs.tables.next_cell.Goals as goal

pub returns-then-is_blank_last-clause-cells : goal.returns-then-is_blank_last-clause-cells
returns-then-is_blank_last-clause-cells c =
    let raw = c.first_cell-raw.result in
    ap (λ b. raw_cells b c.args.rest.now) c.if-not-more.false
    ∙ row_none c.args.rest.now raw.cell.now raw.rest.now raw.more c.first_cell-raw.ensures.cells
    (sym c.is_blank_last.ensures ∙ c.if-is_blank_last.true)

pub returns-clause-cells : goal.returns-clause-cells
returns-clause-cells c =
    let raw = c.first_cell-raw.result in
    ap (λ b. raw_cells b c.args.rest.now) c.if-not-more.false
    ∙ row_next c.args.rest.now raw.cell.now raw.rest.now raw.more c.first_cell-raw.ensures.cells
    (sym c.is_blank_last.ensures ∙ c.if-is_blank_last.false)

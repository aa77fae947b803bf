-- The columns so far, and as wide as the rows so far ask for.
use Rattle.std.proofs.Common.{◌≡◌, map, max, take, fold}
use Rattle.htmd_markdown.specs.Tables.{texts, row_texts}
use Rattle.htmd_commonmark.specs.Columns.{width_of}
use Rattle.htmd_commonmark.specs.TableLines.{narrowest, widened}
use Rattle.htmd_commonmark.proofs.TableLinesLemmas.{header_width}
use Rattle.htmd_commonmark.proofs.table.TableTexts.widths.Given as goal

abbrev pub invariant-loop-cell : goal.invariant-loop-cell
invariant-loop-cell l = l.widths.items ≡ map header_width (take l.cell-index l.self.header.items)

abbrev pub invariant-loop-row : goal.invariant-loop-row
invariant-loop-row l = l.widths.items
    ≡ fold widened (map (λ cell. max narrowest (width_of cell)) (texts l.self.header.items))
    (map row_texts (take l.row-index l.self.rows.items))

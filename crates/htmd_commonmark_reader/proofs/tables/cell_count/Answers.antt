-- The row before its first cell.
use Rattle.std.proofs.Common.{◌≡◌, ◌+◌, ◌∙◌, true, length, ap, arith}
use Rattle.htmd_commonmark_reading.specs.Tables.{without_first_bar}
use Rattle.htmd_commonmark_reader.specs.Rows.{raw_cells}
use Rattle.htmd_commonmark_reader.proofs.DelimitersLemmas.{row_start}
use Rattle.htmd_commonmark_reader.proofs.tables.cell_count.Goals as goal

pub loop-raw-init : goal.loop-raw-init
loop-raw-init c =
    let start = row_start c.args.text.now c.without_first_bar-rest.result.now
    (c.without_first_bar-rest.ensures ∙ ap without_first_bar c.stripped.ensures) in
    let r = c.without_first_bar-rest.result.now in
    let none : 0 + length (raw_cells true r) ≡ length (raw_cells true r) = omega arith in
    record { text = c.without_first_bar-rest.utf8; few = omega (arith, start.0); reads = none ∙ start.1 }

-- A row has cells.
use Rattle.std.proofs.Common.{◌∙◌, sym}
use Rattle.htmd_commonmark_reader.specs.LineViews.{line_of}
use Rattle.htmd_commonmark_reader.proofs.BlockStepsLemmas.{row_test, nothing_starts}
use Rattle.htmd_commonmark_reader.proofs.blocks.is_table_row.Goals as goal

pub returns-then-is_nothing : goal.returns-then-is_nothing
returns-then-is_nothing c =
    row_test c.args.line.spaces c.args.line.text.now c.cell_count.result _ c.cell_count.ensures
    (nothing_starts (line_of c.args.line) c.args.start (sym c.is_nothing.ensures ∙ c.if-is_nothing.true))

-- With the cells to come, what is written so far is all of it.
use Rattle.std.proofs.Common.{◌≡◌, ◌++◌, drop}
use Rattle.htmd_markdown.specs.Tables.{texts}
use Rattle.htmd_commonmark.specs.BlockMarkdown.{written_cells}
use Rattle.htmd_commonmark.specs.BlockViews.{cells_of}
use Rattle.htmd_commonmark.specs.WrittenText.{written_of}
use Rattle.htmd_commonmark.proofs.table.cell_texts.Given as goal

abbrev pub invariant-loop-cell : goal.invariant-loop-cell
invariant-loop-cell l =
    let all = written_cells l.line (written_of l.initial.inlines).definitions (cells_of l.cells) in
    let rest = written_cells l.line (written_of l.inlines).definitions (cells_of (drop l.cell-index l.cells)) in
    record {
      cells : texts l.texts.items ++ rest.cells ≡ all.cells;
      definitions : rest.definitions ≡ all.definitions;
    }

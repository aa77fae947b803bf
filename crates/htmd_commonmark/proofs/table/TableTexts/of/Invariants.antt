-- With the rows to come, what is written so far is all of it.
use Rattle.std.proofs.Common.{◌≡◌, ◌++◌, drop, map}
use Rattle.htmd_markdown.specs.Tables.{row_texts}
use Rattle.htmd_commonmark.specs.BlockMarkdown.{written_rows}
use Rattle.htmd_commonmark.specs.BlockViews.{rows_of}
use Rattle.htmd_commonmark.specs.WrittenText.{written_of}
use Rattle.htmd_commonmark.proofs.table.TableTexts.of.Given as goal

abbrev pub invariant-loop-row : goal.invariant-loop-row
invariant-loop-row l =
    let all = written_rows l.line (written_of l.initial.inlines).definitions (rows_of l.rows) in
    let rest = written_rows l.line (written_of l.inlines).definitions (rows_of (drop l.row-index l.rows)) in
    record {
      rows : map row_texts l.texts.items ++ rest.rows ≡ all.rows;
      definitions : rest.definitions ≡ all.definitions;
    }

-- One more row.
use Rattle.std.proofs.Common.{◌+◌, ◌++◌, drop, map, sym, ap, ◌∙◌}
use Rattle.std.proofs.lemmas.List.{map_push}
use Rattle.htmd_markdown.specs.Tables.{texts, row_texts}
use Rattle.htmd_commonmark.specs.BlockMarkdown.{written_cells, written_rows}
use Rattle.htmd_commonmark.specs.BlockViews.{cells_of, rows_of}
use Rattle.htmd_commonmark.specs.WrittenText.{written_of}
use Rattle.htmd_commonmark.proofs.TableLinesLemmas.{row_split, rows_step}
use Rattle.htmd_commonmark.proofs.table.TableTexts.of.Goals as goal

pub loop-row-preserved : goal.loop-row-preserved
loop-row-preserved c =
    let at = c.args.line in
    let rows = c.args.rows.now in
    let i = c.loop-row.row-index in
    let row = c.row-item.result in
    let rest = rows_of (drop (i + 1) rows) in
    let definitions = (written_of c.loop-row.inlines).definitions in
    let all = written_rows at (written_of c.cell_texts.new.inlines).definitions (rows_of rows) in
    let split = row_split rows i row c.loop-row-test.true c.row-item.is in
    let row_is = c.deref.ensures.value in
    let done = map row_texts c.loop-row.texts.items in
    let defined = c.in_ok-cell_texts.ensures.definitions
    ∙ ap (λ l. (written_cells at definitions (cells_of l)).definitions) row_is in
    record {
      rows =
          rows_step at definitions (written_of c.cell_texts-in-loop-row.new.inlines).definitions done
          (map row_texts c.push.new.self.items) (texts c.in_ok-cell_texts.field-0.items) (cells_of row.items) rest
          all.rows (ap (map row_texts) c.in_ok-push.ensures.items
          ∙ map_push row_texts c.loop-row.texts.items c.in_ok-cell_texts.field-0)
          (c.in_ok-cell_texts.ensures.cells ∙ ap (λ l. (written_cells at definitions (cells_of l)).cells) row_is)
          defined
          (ap (λ l. done ++ (written_rows at definitions l).rows) (sym split) ∙ c.loop-row.invariant.rows);
      definitions =
          ap (λ ds. (written_rows at ds rest).definitions) defined
          ∙ ap (λ l. (written_rows at definitions l).definitions) (sym split) ∙ c.loop-row.invariant.definitions;
    }

-- One more cell.
use Rattle.std.proofs.Common.{◌+◌, ◌++◌, drop, sym, ap, ◌∙◌, string_bytes}
use Rattle.std.proofs.lemmas.List.{append-nil, drop_all, map_push}
use Rattle.htmd_document.specs.DocumentViews.{inlines_of}
use Rattle.htmd_markdown.specs.Tables.{texts}
use Rattle.htmd_commonmark.specs.BlockMarkdown.{written_cells}
use Rattle.htmd_commonmark.specs.BlockViews.{cells_of}
use Rattle.htmd_commonmark.specs.InlineMarkdown.{written_line}
use Rattle.htmd_commonmark.specs.TableLines.{with_escaped_bars}
use Rattle.htmd_commonmark.specs.WrittenText.{written_of}
use Rattle.htmd_commonmark.proofs.TableLinesLemmas.{cell_split, cells_step}
use Rattle.htmd_commonmark.proofs.table.cell_texts.Goals as goal

pub loop-cell-preserved : goal.loop-cell-preserved
loop-cell-preserved c =
    let at = c.args.line in
    let cells = c.args.cells.now in
    let i = c.loop-cell.cell-index in
    let cell = c.cell-item.result in
    let content = inlines_of cell.items in
    let rest = cells_of (drop (i + 1) cells) in
    let definitions = (written_of c.loop-cell.inlines).definitions in
    let all = written_cells at (written_of c.args.inlines.now).definitions (cells_of cells) in
    let split = cell_split cells i cell c.loop-cell-test.true c.cell-item.is in
    let written = c.in_ok-write_line.ensures
    ∙ ap (λ l. written_line at definitions (inlines_of l)) c.deref.ensures.value in
    let done = texts c.loop-cell.texts.items in
    let text = string_bytes c.in_ok-with_escaped_bars.field-0 in
    record {
      cells =
          cells_step at definitions (written_of c.write_line.new.self).definitions done (texts c.push.new.self.items)
          text content rest all.cells
          (ap texts c.in_ok-push.ensures.items
          ∙ map_push (λ s. string_bytes s) c.loop-cell.texts.items c.in_ok-with_escaped_bars.field-0)
          (c.in_ok-with_escaped_bars.ensures
          ∙ ap with_escaped_bars (c.deref-in-loop-cell.ensures ∙ ap (λ x. x.text) written))
          (ap (λ x. x.definitions) written)
          (ap (λ l. done ++ (written_cells at definitions l).cells) (sym split) ∙ c.loop-cell.invariant.cells);
      definitions =
          ap (λ ds. (written_cells at ds rest).definitions) (ap (λ x. x.definitions) written)
          ∙ ap (λ l. (written_cells at definitions l).definitions) (sym split) ∙ c.loop-cell.invariant.definitions;
    }

pub returns-clause-cells : goal.returns-clause-cells
returns-clause-cells c =
    let none = drop_all c.loop-cell.cell-index c.args.cells.now c.loop-cell-test.false in
    let done = texts c.loop-cell.texts.items in
    let definitions = (written_of c.loop-cell.inlines).definitions in
    sym (append-nil done)
    ∙ ap (λ l. done ++ (written_cells c.args.line definitions (cells_of l)).cells) (sym none)
    ∙ c.loop-cell.invariant.cells

pub returns-clause-definitions : goal.returns-clause-definitions
returns-clause-definitions c =
    let none = drop_all c.loop-cell.cell-index c.args.cells.now c.loop-cell-test.false in
    let definitions = (written_of c.loop-cell.inlines).definitions in
    ap (λ l. (written_cells c.args.line definitions (cells_of l)).definitions) (sym none)
    ∙ c.loop-cell.invariant.definitions

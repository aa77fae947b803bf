-- The row, and then the cells that it lacks.
use Rattle.std.proofs.Common.{◌≡◌, ◌++◌, ◌∙◌, length, ap, sym, string_bytes}
use Rattle.std.proofs.lemmas.List.{length-map}
use Rattle.htmd_markdown.specs.Tables.{texts}
use Rattle.htmd_commonmark.specs.TableLines.{line}
use Rattle.htmd_commonmark.proofs.TableLinesLemmas.{filled-line, empty_left, told_as}
use Rattle.htmd_commonmark.proofs.table.push_padded_row.Goals as goal

pub returns : goal.returns
returns c =
    let cells = c.args.cells.now in
    let words = texts cells in
    let widths = c.args.widths.now in
    let out = string_bytes c.args.out.now in
    let size : length words ≡ length cells = length-map cells (λ s. string_bytes s) in
    told_as c.push_empty_cells.result (string_bytes c.push_empty_cells.new.out)
    (string_bytes c.push_row.new.out ++ empty_left widths (length cells)) _ c.push_empty_cells.ensures
    (ap (λ l. l ++ empty_left widths (length cells)) c.in_ok-push_row.ensures
    ∙ ap (λ n. (out ++ line words widths) ++ empty_left widths n) (sym size)
    ∙ filled-line out words widths)

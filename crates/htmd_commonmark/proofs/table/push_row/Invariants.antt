-- With the cells to come, what is written so far is the whole line.
use Rattle.std.proofs.Common.{◌≡◌, ◌++◌, length, string_bytes}
use Rattle.htmd_markdown.specs.Tables.{texts}
use Rattle.htmd_commonmark.specs.TableLines.{line}
use Rattle.htmd_commonmark.proofs.TableLinesLemmas.{cells_left}
use Rattle.htmd_commonmark.proofs.table.push_row.Given as goal

abbrev pub invariant-loop-cell : goal.invariant-loop-cell
invariant-loop-cell l = string_bytes l.out ++ cells_left (texts l.cells) l.widths (length l.yielded)
    ≡ string_bytes l.fn.out ++ line (texts l.cells) l.widths

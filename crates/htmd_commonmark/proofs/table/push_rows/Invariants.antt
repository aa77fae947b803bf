-- The rows so far are written.
use Rattle.std.proofs.Common.{◌≡◌, ◌++◌, false, map, take, string_bytes}
use Rattle.htmd_markdown.specs.Tables.{row_texts}
use Rattle.htmd_commonmark.specs.TableLines.{rows_text}
use Rattle.htmd_commonmark.proofs.table.push_rows.Given as goal

abbrev pub invariant-loop-row : goal.invariant-loop-row
invariant-loop-row l = string_bytes l.out
    ≡ string_bytes l.fn.out ++ rows_text false l.widths (map row_texts (take l.row-index l.rows))

use Rattle.std.proofs.Common.{◌≡◌, ◌++◌, length, map, string_bytes}
use Rattle.htmd_markdown.specs.Tables.{line_cells, row}
use Rattle.htmd_markdown.proofs.TablesLemmas.{left}
use Rattle.htmd_markdown.proofs.table.push_row.Given as goal

abbrev pub invariant-loop-i : goal.invariant-loop-i
invariant-loop-i l =
    let texts = map (λ cell. string_bytes cell) l.cells in
    string_bytes l.text ++ left (line_cells (length l.widths) texts) l.widths l.i
    ≡ string_bytes l.fn.text
    ++ row texts l.widths

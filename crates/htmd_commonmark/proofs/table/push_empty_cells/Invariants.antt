-- With the cells to come, what is written so far is all of them.
use Rattle.std.proofs.Common.{◌≡◌, ◌++◌, string_bytes}
use Rattle.htmd_commonmark.proofs.TableLinesLemmas.{empty_left}
use Rattle.htmd_commonmark.proofs.table.push_empty_cells.Given as goal

abbrev pub invariant-loop-i : goal.invariant-loop-i
invariant-loop-i l = string_bytes l.out ++ empty_left l.widths l.i
    ≡ string_bytes l.fn.out ++ empty_left l.widths l.from

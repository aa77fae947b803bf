-- With the columns to come, what is written so far is the whole line.
use Rattle.std.proofs.Common.{◌≡◌, ◌++◌, codes, length, string_bytes}
use Rattle.htmd_commonmark.specs.TableLines.{delimiters}
use Rattle.htmd_commonmark.proofs.TableLinesLemmas.{dashes_left}
use Rattle.htmd_commonmark.proofs.table.push_delimiters.Given as goal

abbrev pub invariant-loop-alignment : goal.invariant-loop-alignment
invariant-loop-alignment l = string_bytes l.out ++ dashes_left l.alignments l.widths (length l.yielded)
    ≡ string_bytes l.fn.out ++ (codes "\n|" ++ delimiters l.alignments l.widths)

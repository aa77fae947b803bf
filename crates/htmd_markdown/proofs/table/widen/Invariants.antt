use Rattle.htmd_markdown.specs.CellBytes.{held_widths}
use Rattle.htmd_markdown.specs.Tables.{texts}
use Rattle.htmd_markdown.proofs.ColumnsLemmas.{Widening}
use Rattle.htmd_markdown.proofs.table.widen.Given as goal

abbrev pub invariant-loop-i : goal.invariant-loop-i
invariant-loop-i l = Widening l.fn.widths.items (held_widths (texts l.cells)) l.widths.items l.i

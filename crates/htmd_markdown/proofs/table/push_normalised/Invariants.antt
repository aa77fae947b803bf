use Rattle.std.specs.String.{string_bytes}
use Rattle.htmd_markdown.proofs.CellsLemmas.{Normalising}
use Rattle.htmd_markdown.proofs.table.push_normalised.Given as goal

abbrev pub invariant-loop-i : goal.invariant-loop-i
invariant-loop-i l = Normalising l.cell (string_bytes l.fn.text) (string_bytes l.text) l.from l.i

use Rattle.std.proofs.Common.{◌≡◌, ◌++◌, replicate}
use Rattle.htmd_document.specs.declared.document.Alignment.TheVariants as align
use Rattle.htmd_flow.proofs.grid.align.Given as goal

abbrev pub invariant-loop-column : goal.invariant-loop-column
invariant-loop-column l = l.alignments.items ≡ l.initial.alignments.items ++ replicate l._column align.None

use Rattle.std.proofs.Common.{◌≡◌, ◌++◌, replicate}
use Rattle.htmd_document.specs.Documents.{no_inlines}
use Rattle.htmd_flow.specs.GridViews.{line_of}
use Rattle.htmd_flow.proofs.grid.pad.Given as goal

abbrev pub invariant-loop-column : goal.invariant-loop-column
invariant-loop-column l = line_of l.cells.items ≡ line_of l.initial.cells.items ++ replicate l._column no_inlines

-- The cells so far.
use Rattle.std.proofs.Common.{◌≡◌, take}
use Rattle.htmd_commonmark.specs.BlockViews.{cells_of}
use Rattle.htmd_chunks.proofs.copies.copied_cells.Given as goal

abbrev pub invariant-loop-cell : goal.invariant-loop-cell
invariant-loop-cell l = cells_of l.copy.items ≡ cells_of (take l.cell-index l.cells)

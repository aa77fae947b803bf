-- The inlines so far.
use Rattle.std.proofs.Common.{◌≡◌, map, take}
use Rattle.htmd_document.specs.DocumentViews.{inline_of}
use Rattle.htmd_chunks.proofs.copies.+copies.Given as goal

abbrev pub invariant-copied-loop-x : goal.invariant-copied-loop-x
invariant-copied-loop-x l = map inline_of l.copy.items ≡ map inline_of (take l.x-index l.xs)

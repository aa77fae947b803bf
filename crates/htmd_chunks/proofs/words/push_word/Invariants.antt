-- The inlines so far.
use Rattle.std.proofs.Common.{◌≡◌, ◌++◌, map}
use Rattle.htmd_document.specs.DocumentViews.{inline_of}
use Rattle.htmd_chunks.proofs.words.push_word.Given as goal

abbrev pub invariant-loop-x : goal.invariant-loop-x
invariant-loop-x l = map inline_of l.line.items ≡ map inline_of l.initial.line.items ++ map inline_of l.yielded

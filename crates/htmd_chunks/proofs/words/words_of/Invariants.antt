-- With the inlines to come, the words so far are all of them.
use Rattle.std.proofs.Common.{◌≡◌, ◌++◌, drop, map}
use Rattle.htmd_document.specs.DocumentViews.{inline_of, inlines_of}
use Rattle.htmd_chunks.specs.Words.{words_from, words_of}
use Rattle.htmd_chunks.specs.WordViews.{words_in}
use Rattle.htmd_chunks.proofs.words.words_of.Given as goal

abbrev pub invariant-loop-i : goal.invariant-loop-i
invariant-loop-i l = words_in l.words.done.items
    ++ words_from l.before (map inline_of l.words.now.items) (inlines_of (drop l.i l.content))
    ≡ words_of (inlines_of l.content)

-- The words so far.
use Rattle.std.proofs.Common.{◌≡◌, ◌++◌, map, take}
use Rattle.htmd_chunks.specs.UnitViews.{one_word}
use Rattle.htmd_chunks.proofs.words.push_sentence.Given as goal

abbrev pub invariant-loop-word : goal.invariant-loop-word
invariant-loop-word l = l.units.items
    ≡ l.initial.units.items ++ map one_word (take l.word-index l.words)

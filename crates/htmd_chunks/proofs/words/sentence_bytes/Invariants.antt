-- With the words to come, the bytes so far are all of them.
use Rattle.std.proofs.Common.{◌≡◌, ◌+◌, ◌-◌, drop, length, sum}
use Rattle.htmd_chunks.proofs.words.sentence_bytes.Given as goal

abbrev pub invariant-loop-word : goal.invariant-loop-word
invariant-loop-word l = l.bytes + sum (drop l.word-index l.words) ≡ sum l.words + (length l.words - 1)

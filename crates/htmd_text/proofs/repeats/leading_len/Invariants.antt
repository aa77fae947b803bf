-- What the loop of `leading_len` keeps.
use Rattle.std.proofs.Common.{◌≡◌, ◌==◌, ℕ, ◌<◌, get_or, true}
use Rattle.htmd_text.proofs.repeats.leading_len.Given as goal

abbrev pub invariant-loop-len : goal.invariant-loop-len
invariant-loop-len l = (k : ℕ) → k < l.len → (get_or l.bytes k 0 == l.byte) ≡ true

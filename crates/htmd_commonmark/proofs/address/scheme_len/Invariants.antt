-- All bytes so far are of a scheme.
use Rattle.std.proofs.Common.{◌≡◌, ℕ, ◌<◌, get_or, true}
use Rattle.htmd_commonmark.specs.Addresses.{is_scheme_character}
use Rattle.htmd_commonmark.proofs.address.scheme_len.Given as goal

abbrev pub invariant-loop-len : goal.invariant-loop-len
invariant-loop-len l = (k : ℕ) → k < l.len → is_scheme_character (get_or l.bytes k 0) ≡ true

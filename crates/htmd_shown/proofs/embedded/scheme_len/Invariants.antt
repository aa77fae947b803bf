use Rattle.std.proofs.Common.{◌≡◌, ℕ, ◌<◌, get_or, true}
use Rattle.htmd_shown.specs.Embeds.{is_scheme_character}
use Rattle.htmd_shown.proofs.embedded.scheme_len.Given as goal

abbrev pub invariant-loop-len : goal.invariant-loop-len
invariant-loop-len l = (k : ℕ) → k < l.len → is_scheme_character (get_or l.text k 0) ≡ true

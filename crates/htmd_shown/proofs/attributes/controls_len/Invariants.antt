use Rattle.std.proofs.Common.{◌≡◌, ℕ, ◌<◌, get_or, true}
use Rattle.htmd_shown.specs.Attributes.{is_space_or_control}
use Rattle.htmd_shown.proofs.attributes.controls_len.Given as goal

abbrev pub invariant-loop-len : goal.invariant-loop-len
invariant-loop-len l = (k : ℕ) → k < l.len → (is_space_or_control) (get_or l.text k 0) ≡ true

use Rattle.std.proofs.Common.{◌≡◌, ℕ, ◌<◌, get_or, true}
use Rattle.std.specs.Prelude.{nat_lt}
use Rattle.htmd_flow.proofs.grid.taken_len.Given as goal

abbrev pub invariant-loop-len : goal.invariant-loop-len
invariant-loop-len l = (k : ℕ) → k < l.len → nat_lt l.row (get_or l.taken k 0) ≡ true

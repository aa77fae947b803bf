use Rattle.std.proofs.Common.{◌≡◌, ℕ, ◌<◌, get_or, true}
use Rattle.std.specs.Prelude.{nat_le}
use Rattle.htmd_flow.proofs.grid.free_len.Given as goal

abbrev pub invariant-loop-len : goal.invariant-loop-len
invariant-loop-len l = (k : ℕ) → k < l.len → nat_le (get_or l.taken k 0) l.row ≡ true

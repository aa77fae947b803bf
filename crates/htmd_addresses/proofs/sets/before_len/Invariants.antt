use Rattle.std.proofs.Common.{◌≡◌, ◌+◌, drop}
use Rattle.htmd_addresses.specs.AddressSets as spec
use Rattle.htmd_addresses.proofs.sets.before_len.Given as goal

abbrev pub invariant-loop-len : goal.invariant-loop-len
invariant-loop-len l = l.len + spec.before_len (drop l.len l.set) ≡ spec.before_len l.set

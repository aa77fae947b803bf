use Rattle.std.proofs.Common.{◌≡◌, ◌+◌, false, drop}
use Rattle.htmd_addresses.specs.AddressSets as spec
use Rattle.htmd_addresses.proofs.sets.description_len.Given as goal

abbrev pub invariant-loop-len : goal.invariant-loop-len
invariant-loop-len l =
    l.len + spec.description_len l.is_inside (drop l.len l.set) ≡ spec.description_len false l.set

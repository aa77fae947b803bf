use Rattle.std.proofs.Common.{◌≡◌, ◌+◌, drop}
use Rattle.htmd_addresses.specs.AddressSets as spec
use Rattle.htmd_addresses.proofs.sets.word_len.Given as goal

abbrev pub invariant-loop-len : goal.invariant-loop-len
invariant-loop-len l = l.len + spec.word_len (drop l.len l.set) ≡ spec.word_len l.set

-- The units so far, and then those of the bytes that are left, are all units.
use Rattle.std.proofs.Common.{◌≡◌, ◌++◌, length}
use Rattle.htmd_encodings.specs.Utf16.{code_units, code_units_after}
use Rattle.htmd_encodings.proofs.decoding.units_of.Given as goal

abbrev pub invariant-loop-rest : goal.invariant-loop-rest
invariant-loop-rest l = l.units.items ++ code_units_after l.waits l.order l.rest ≡ code_units l.order l.bytes

abbrev pub decreases-loop-rest : goal.decreases-loop-rest
decreases-loop-rest l = length l.rest

-- The bytes were not met so far.
use Rattle.std.proofs.Common.{◌≡◌, length}
use Rattle.htmd_encodings.specs.Declarations.{after_first}
use Rattle.htmd_encodings.proofs.cuts.after_first.Given as goal

abbrev pub invariant-loop-rest : goal.invariant-loop-rest
invariant-loop-rest l = after_first l.searched l.rest ≡ after_first l.searched l.bytes

abbrev pub decreases-loop-rest : goal.decreases-loop-rest
decreases-loop-rest l = length l.rest

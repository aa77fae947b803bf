-- What the loop of `digits` keeps.
use Rattle.std.proofs.Common.{◌≡◌, ◌+◌}
use Rattle.htmd_text.specs.Digits.{digits}
use Rattle.htmd_text.proofs.numbers.digits.Given as goal

abbrev pub invariant-loop-rest : goal.invariant-loop-rest
invariant-loop-rest l = l.digits + digits l.rest ≡ 1 + digits l.number

abbrev pub decreases-loop-rest : goal.decreases-loop-rest
decreases-loop-rest l = l.rest

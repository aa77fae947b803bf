use Rattle.std.proofs.Common.{◌≡◌, drop}
use Rattle.htmd_selectors.specs.Matching as spec
use Rattle.htmd_selectors.proofs.matching.contains.Given as goal

abbrev pub invariant-loop-place : goal.invariant-loop-place
invariant-loop-place l =
    spec.contains l.caseless l.wanted (drop l.place l.value) ≡ spec.contains l.caseless l.wanted l.value

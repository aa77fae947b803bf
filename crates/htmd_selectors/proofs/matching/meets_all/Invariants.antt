use Rattle.std.proofs.Common.{◌≡◌, drop, map}
use Rattle.htmd_selectors.specs.ElementViews.{element_of}
use Rattle.htmd_selectors.specs.Matching as spec
use Rattle.htmd_selectors.specs.Views.{condition_of}
use Rattle.htmd_selectors.proofs.matching.meets_all.Given as goal

abbrev pub invariant-loop-condition : goal.invariant-loop-condition
invariant-loop-condition l =
    spec.meets_all (element_of l.e) (map condition_of (drop l.condition-index l.conditions))
    ≡ spec.meets_all (element_of l.e) (map condition_of l.conditions)

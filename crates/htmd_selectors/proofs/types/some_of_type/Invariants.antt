use Rattle.std.proofs.Common.{◌≡◌, drop, map}
use Rattle.htmd_selectors.specs.Types as spec
use Rattle.htmd_selectors.specs.Views.{condition_of}
use Rattle.htmd_selectors.proofs.types.some_of_type.Given as goal

abbrev pub invariant-loop-condition : goal.invariant-loop-condition
invariant-loop-condition l =
    spec.some_of_type (map condition_of (drop l.condition-index l.conditions))
    ≡ spec.some_of_type (map condition_of l.conditions)

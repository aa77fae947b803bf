use Rattle.std.proofs.Common.{◌≡◌, drop}
use Rattle.htmd_selectors.specs.Types as spec
use Rattle.htmd_selectors.specs.Views.{steps_of}
use Rattle.htmd_selectors.proofs.types.asks_types.Given as goal

abbrev pub invariant-loop-step : goal.invariant-loop-step
invariant-loop-step l =
    spec.asks_types (steps_of (drop l.step-index l.steps))
    ≡ spec.asks_types (steps_of l.steps)

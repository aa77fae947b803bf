use Rattle.std.proofs.Common.{◌≡◌, drop, false}
use Rattle.htmd_selectors.specs.SelectorStates.{is_named_by}
use Rattle.htmd_selectors.specs.Views.{steps_of}
use Rattle.htmd_selectors.proofs.matching.is_named.Given as goal

abbrev pub invariant-loop-i : goal.invariant-loop-i
invariant-loop-i l =
    is_named_by l.here (steps_of (drop l.i l.steps)) (drop l.i l.named)
    ≡ is_named_by false (steps_of l.steps) l.named

-- What is left decides.
use Rattle.std.proofs.Common.{◌≡◌, List, ◌++◌, length}
use Rattle.htmd_html5_state.specs.Foreign.{foreign_end}
use Rattle.htmd_html5_state.specs.OpenViews.{stack_of}
use Rattle.htmd_html5_state.specs.declared.open_elements.OpenElement.{OpenElement}
use Rattle.htmd_html5_state.proofs.foreign.end_by_walk.Given as goal

abbrev pub invariant-loop-outer : goal.invariant-loop-outer
invariant-loop-outer l =
    (inner : List OpenElement) × (l.elements ≡ l.rest ++ inner)
    × (foreign_end l.name (stack_of l.rest) ≡ foreign_end l.name (stack_of l.elements))

abbrev pub decreases-loop-outer : goal.decreases-loop-outer
decreases-loop-outer l = length l.rest

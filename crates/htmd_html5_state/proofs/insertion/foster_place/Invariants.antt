-- What is left decides.
use Rattle.std.proofs.Common.{◌≡◌, length}
use Rattle.htmd_html5_state.specs.Insertion.{foster_place}
use Rattle.htmd_html5_state.specs.OpenViews.{stack_of}
use Rattle.htmd_html5_state.proofs.insertion.foster_place.Given as goal

abbrev pub invariant-loop-outer : goal.invariant-loop-outer
invariant-loop-outer l =
    foster_place l.document (stack_of l.rest) ≡ foster_place l.document (stack_of l.elements)

abbrev pub decreases-loop-outer : goal.decreases-loop-outer
decreases-loop-outer l = length l.rest

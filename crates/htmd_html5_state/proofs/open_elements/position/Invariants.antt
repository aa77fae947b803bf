-- No element that was met has this node.
use Rattle.std.proofs.Common.{◌≡◌, false, List, ◌++◌, length}
use Rattle.htmd_html5_state.specs.OpenElements.{is_open_node}
use Rattle.htmd_html5_state.specs.OpenViews.{stack_of}
use Rattle.htmd_html5_state.specs.declared.open_elements.OpenElement.{OpenElement}
use Rattle.htmd_html5_state.proofs.open_elements.position.Given as goal

abbrev pub invariant-loop-outer : goal.invariant-loop-outer
invariant-loop-outer l =
    (inner : List OpenElement) × (l.elements ≡ l.rest ++ inner) × (is_open_node l.node (stack_of inner) ≡ false)

abbrev pub decreases-loop-outer : goal.decreases-loop-outer
decreases-loop-outer l = length l.rest

-- What is left is popped further.
use Rattle.std.proofs.Common.{◌≡◌, length}
use Rattle.htmd_html5_state.specs.OpenElements.{clear_to}
use Rattle.htmd_html5_state.proofs.open_elements.OpenElements.clear_to.Given as goal

abbrev pub invariant-loop-self : goal.invariant-loop-self
invariant-loop-self l = clear_to l.set l.self ≡ clear_to l.set l.fn.self

abbrev pub decreases-loop-self : goal.decreases-loop-self
decreases-loop-self l = length l.self

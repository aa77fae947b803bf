-- Nothing of the set was popped so far.
use Rattle.std.proofs.Common.{◌≡◌, length}
use Rattle.htmd_html5_state.specs.OpenElements.{pop_until}
use Rattle.htmd_html5_state.proofs.open_elements.OpenElements.pop_until.Given as goal

abbrev pub invariant-loop-element : goal.invariant-loop-element
invariant-loop-element l = pop_until l.set l.self ≡ pop_until l.set l.fn.self

abbrev pub decreases-loop-element : goal.decreases-loop-element
decreases-loop-element l = length l.self

-- What is left is popped further.
use Rattle.std.proofs.Common.{◌≡◌, length}
use Rattle.htmd_html5_state.specs.OpenElements.{pop_while}
use Rattle.htmd_html5_state.proofs.open_elements.OpenElements.pop_while.Given as goal

abbrev pub invariant-loop-set : goal.invariant-loop-set
invariant-loop-set l = pop_while l.set l.self ≡ pop_while l.set l.fn.self

abbrev pub decreases-loop-set : goal.decreases-loop-set
decreases-loop-set l = length l.self

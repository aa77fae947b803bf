-- What was popped stands inside the node.
use Rattle.std.proofs.Common.{◌≡◌, ◌++◌, length}
use Rattle.htmd_html5_state.specs.OpenElements.{inside, around}
use Rattle.htmd_html5_state.specs.OpenViews.{all_open_of}
use Rattle.htmd_html5_state.proofs.open_elements.OpenElements.take_inside.Given as goal

abbrev pub invariant-loop-element : goal.invariant-loop-element
invariant-loop-element l =
    (inside l.node l.fn.self ≡ all_open_of l.inside.items ++ inside l.node l.self)
    × (around l.node l.fn.self ≡ around l.node l.self)

abbrev pub decreases-loop-element : goal.decreases-loop-element
decreases-loop-element l = length l.self

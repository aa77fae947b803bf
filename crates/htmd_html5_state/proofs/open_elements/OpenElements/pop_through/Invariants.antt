-- Nothing with this name was popped so far.
use Rattle.std.proofs.Common.{◌≡◌, length}
use Rattle.htmd_html5_state.specs.Names.{name_of, html}
use Rattle.htmd_html5_state.specs.OpenElements.{pop_through, has_name}
use Rattle.htmd_html5_state.proofs.open_elements.OpenElements.pop_through.Given as goal

abbrev pub invariant-loop-element : goal.invariant-loop-element
invariant-loop-element l =
    pop_through (has_name (html (name_of l.name))) l.self
    ≡ pop_through (has_name (html (name_of l.name))) l.fn.self

abbrev pub decreases-loop-element : goal.decreases-loop-element
decreases-loop-element l = length l.self

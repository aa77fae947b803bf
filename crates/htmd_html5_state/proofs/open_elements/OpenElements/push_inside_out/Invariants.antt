-- Those that are left stand inside those that were pushed.
use Rattle.std.proofs.Common.{◌≡◌, ◌++◌, vec_len}
use Rattle.htmd_html5_state.specs.OpenViews.{all_open_of}
use Rattle.htmd_html5_state.proofs.open_elements.OpenElements.push_inside_out.Given as goal

abbrev pub invariant-loop-element : goal.invariant-loop-element
invariant-loop-element l = all_open_of l.elements.items ++ l.self ≡ all_open_of l.fn.elements.items ++ l.fn.self

abbrev pub decreases-loop-element : goal.decreases-loop-element
decreases-loop-element l = vec_len l.elements

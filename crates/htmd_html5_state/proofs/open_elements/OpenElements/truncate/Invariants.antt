-- What is left is popped further.
use Rattle.std.proofs.Common.{◌≡◌, ◌-◌, length, drop}
use Rattle.htmd_html5_state.proofs.open_elements.OpenElements.truncate.Given as goal

abbrev pub invariant-loop-self : goal.invariant-loop-self
invariant-loop-self l = drop (length l.self - l.len) l.self ≡ drop (length l.fn.self - l.len) l.fn.self

abbrev pub decreases-loop-self : goal.decreases-loop-self
decreases-loop-self l = length l.self

-- Those that are left have their places.
use Rattle.std.proofs.Common.{◌≡◌, ◌≤◌, length, take, vec_len}
use Rattle.htmd_html5_state.specs.OpenViews.{stack_of}
use Rattle.htmd_html5_state.specs.Places.{IsPlaced, AllHaveRoom}
use Rattle.htmd_html5_state.proofs.open_elements.leave_all.Given as goal

abbrev pub invariant-loop-left : goal.invariant-loop-left
invariant-loop-left l =
    IsPlaced l.places (stack_of (take l.left l.elements))
    × AllHaveRoom l.places (stack_of l.elements)
    × (vec_len l.places.around ≡ vec_len l.fn.places.around)
    × (l.len ≤ l.left) × (l.left ≤ length l.elements)

abbrev pub decreases-loop-left : goal.decreases-loop-left
decreases-loop-left l = l.left

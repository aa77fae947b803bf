-- Those so far have their places.
use Rattle.std.proofs.Common.{◌≡◌, take, vec_len}
use Rattle.htmd_html5_state.specs.OpenViews.{stack_of}
use Rattle.htmd_html5_state.specs.Places.{IsPlaced, AllHaveRoom}
use Rattle.htmd_html5_state.proofs.open_elements.enter_all.Given as goal

abbrev pub invariant-loop-i : goal.invariant-loop-i
invariant-loop-i l =
    IsPlaced l.places (stack_of (take l.i l.elements))
    × AllHaveRoom l.places (stack_of l.elements)
    × (vec_len l.places.around ≡ vec_len l.fn.places.around)

-- What is added follows.
use Rattle.std.proofs.Common.{◌≤◌, ◌+◌, ◌-◌, List, vec_len}
use Rattle.htmd_html5_state.specs.OpenElements.{OpenValue}
use Rattle.htmd_html5_state.specs.Places.{IsLinked}
use Rattle.htmd_html5_state.proofs.places.make_room_around.Given as goal

abbrev pub invariant-loop-around : goal.invariant-loop-around
invariant-loop-around l =
    ((es : List OpenValue) → IsLinked l.fn.around.items es → IsLinked l.around.items es)
    × (vec_len l.fn.around ≤ vec_len l.around)

abbrev pub decreases-loop-around : goal.decreases-loop-around
decreases-loop-around l = l.depth + 1 - vec_len l.around

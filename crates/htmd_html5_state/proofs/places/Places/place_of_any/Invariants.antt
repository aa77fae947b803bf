-- The place by the names so far.
use Rattle.std.proofs.Common.{◌≡◌, List, take}
use Rattle.htmd_html5_state.specs.OpenElements.{OpenValue}
use Rattle.htmd_html5_state.specs.Places.{IsPlaced, has_one, innermost}
use Rattle.htmd_html5_state.proofs.places.Places.place_of_any.Given as goal

abbrev pub invariant-loop-tag : goal.invariant-loop-tag
invariant-loop-tag l =
    (stack : List OpenValue) → IsPlaced l.self stack
    → l.place ≡ innermost (has_one (take l.tag-index l.tags)) stack

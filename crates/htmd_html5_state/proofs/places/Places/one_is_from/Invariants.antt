-- None of those so far stands there.
use Rattle.std.proofs.Common.{◌≡◌, false, take}
use Rattle.std.specs.List.{list_any}
use Rattle.htmd_html5_state.specs.Names.{known}
use Rattle.htmd_html5_state.specs.Places.{is_from, name_place}
use Rattle.htmd_html5_state.proofs.places.Places.one_is_from.Given as goal

abbrev pub invariant-loop-tag : goal.invariant-loop-tag
invariant-loop-tag l =
    list_any (λ t. is_from l.bound (name_place l.self.names (known t))) (take l.tag-index l.tags) ≡ false

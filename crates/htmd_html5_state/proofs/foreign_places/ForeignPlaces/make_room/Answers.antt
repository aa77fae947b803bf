-- The spelling is held with the number of its lower case.
use Rattle.std.proofs.Common.{rules, ℕ, List, Some, string_bytes, ◌∙◌, ap}
use Rattle.std.proofs.lemmas.Map.Text.{hash_map_updates_text}
use Rattle.htmd_html5_state.specs.ForeignPlaces.{lower, number_of, place_by}
use Rattle.htmd_html5_state.specs.declared.foreign_places.ForeignPlaces.{ForeignPlaces}
use Rattle.htmd_html5_state.proofs.ForeignPlacesLemmas.{also_numbered, also_same, kept_by}
use Rattle.htmd_html5_state.proofs.foreign_places.ForeignPlaces.make_room.Goals as goal

pub returns-clause-numbered : goal.returns-clause-numbered
returns-clause-numbered c = λ old.
    let p : ForeignPlaces = c.number.new.self in
    let q : ForeignPlaces = record { numbers = c.insert.new.self; places = c.number.new.self.places } in
    also_numbered (number_of p) (number_of q) (string_bytes c.in_ok-clone.field-0) c.in_ok-number.number
    (hash_map_updates_text (string_bytes c.in_ok-clone.field-0) c.number.new.self.numbers c.insert.new.self
    (Some c.in_ok-number.number) c.in_ok-insert.ensures.updates)
    _ (c.number.ensures.numbered old)
    (ap (λ (s : List ℕ). number_of p (lower s)) (search rules) ∙ c.in_ok-number.ensures.number)

pub returns-clause-places : goal.returns-clause-places
returns-clause-places c = λ old s.
    let p : ForeignPlaces = c.number.new.self in
    let q : ForeignPlaces = record { numbers = c.insert.new.self; places = c.number.new.self.places } in
    ap (place_by c.number.new.self.places.items)
    (also_same (number_of p) (number_of q) (string_bytes c.in_ok-clone.field-0) c.in_ok-number.number
    (hash_map_updates_text (string_bytes c.in_ok-clone.field-0) c.number.new.self.numbers c.insert.new.self
    (Some c.in_ok-number.number) c.in_ok-insert.ensures.updates)
    (ap (λ (t : List ℕ). number_of p (lower t)) (search rules) ∙ c.in_ok-number.ensures.number) s)
    ∙ c.number.ensures.places old s

pub returns-clause-kept : goal.returns-clause-kept
returns-clause-kept c = λ s held.
    let p : ForeignPlaces = c.number.new.self in
    let q : ForeignPlaces = record { numbers = c.insert.new.self; places = c.number.new.self.places } in
    kept_by (number_of p) (number_of q) (string_bytes c.in_ok-clone.field-0) c.in_ok-number.number
    (hash_map_updates_text (string_bytes c.in_ok-clone.field-0) c.number.new.self.numbers c.insert.new.self
    (Some c.in_ok-number.number) c.in_ok-insert.ensures.updates) s (c.number.ensures.kept s held)

-- The spelling is held, and is nowhere.
use Rattle.std.proofs.Common.{rules, ◌≡◌, ℕ, List, Some, string_bytes, ◌∙◌, ap, arith, length, vec_len}
use Rattle.std.proofs.lemmas.Map.Text.{hash_map_updates_text}
use Rattle.htmd_html5_state.specs.ForeignPlaces.{lower, number_of, place_by}
use Rattle.htmd_html5_state.specs.declared.foreign_places.ForeignPlaces.{ForeignPlaces}
use Rattle.htmd_html5_state.proofs.ForeignPlacesLemmas.{new_numbered, new_place, kept_by}
use Rattle.htmd_html5_state.proofs.foreign_places.ForeignPlaces.add.Goals as goal

pub returns-clause-numbered : goal.returns-clause-numbered
returns-clause-numbered c = λ old.
    let p : ForeignPlaces = c.args.self.now in
    let q : ForeignPlaces = record { numbers = c.insert.new.self; places = c.push.new.self } in
    new_numbered (number_of p) (number_of q) (string_bytes c.args.lower) c.len-number.result
    (hash_map_updates_text (string_bytes c.args.lower) c.args.self.now.numbers c.insert.new.self
    (Some c.len-number.result) c.in_ok-insert.ensures.updates)
    _ _ old c.len-number.ensures (omega (arith, c.in_ok-push.ensures.len)) c.requires.lower c.requires.new

pub returns-clause-places : goal.returns-clause-places
returns-clause-places c = λ old s.
    let size : vec_len c.args.self.now.places ≡ length c.args.self.now.places.items = search rules in
    let p : ForeignPlaces = c.args.self.now in
    let q : ForeignPlaces = record { numbers = c.insert.new.self; places = c.push.new.self } in
    ap (λ (xs : List ℕ). place_by xs (number_of q (lower s))) c.in_ok-push.ensures.items
    ∙ new_place (number_of p) (number_of q) (string_bytes c.args.lower) c.len-number.result
    (hash_map_updates_text (string_bytes c.args.lower) c.args.self.now.numbers c.insert.new.self
    (Some c.len-number.result) c.in_ok-insert.ensures.updates)
    c.args.self.now.places.items (c.len-number.ensures ∙ size) c.requires.lower c.requires.new s

pub returns-clause-kept : goal.returns-clause-kept
returns-clause-kept c = λ s.
    let p : ForeignPlaces = c.args.self.now in
    let q : ForeignPlaces = record { numbers = c.insert.new.self; places = c.push.new.self } in
    kept_by (number_of p) (number_of q) (string_bytes c.args.lower) c.len-number.result
    (hash_map_updates_text (string_bytes c.args.lower) c.args.self.now.numbers c.insert.new.self
    (Some c.len-number.result) c.in_ok-insert.ensures.updates) s

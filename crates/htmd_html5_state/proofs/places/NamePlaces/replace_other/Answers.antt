-- Only that of the name is written.
use Rattle.std.proofs.Common.{rules, ℕ, Some, cond, refl, ap, ◌∙◌}
use Rattle.std.proofs.lemmas.Map.Text.{hash_map_updates_text}
use Rattle.htmd_html5_state.specs.Names.{html, other, same_element_name}
use Rattle.htmd_html5_state.specs.Places.{name_place}
use Rattle.htmd_html5_state.specs.declared.places.NamePlaces.{NamePlaces}
use Rattle.htmd_html5_state.proofs.PlacesLemmas.{other-put, other-room}
use Rattle.htmd_html5_state.proofs.places.NamePlaces.replace_other.Goals as goal

pub returns-in-Some-clause-places : goal.returns-in-Some-clause-places
returns-in-Some-clause-places c = λ m.
    let p : NamePlaces = c.args.self.now in
    let place : ℕ = c.replace.new.dest in
    let q : NamePlaces = record { tags = p.tags; others = c.get_mut.follows.lender place; foreign = p.foreign } in
    other-put p q c.args.text.now place refl refl
    (hash_map_updates_text c.args.text.now p.others (c.get_mut.follows.lender place) (Some place)
    ((c.get_mut.follows.holds place).3 (search rules)))
    m
    ∙ ap (λ (n : ℕ). cond (same_element_name (html (other c.args.text.now)) (html m)) n (name_place p m))
    c.replace.ensures.after

pub returns-in-Some-clause-room : goal.returns-in-Some-clause-room
returns-in-Some-clause-room c =
    let p : NamePlaces = c.args.self.now in
    let place : ℕ = c.replace.new.dest in
    let q : NamePlaces = record { tags = p.tags; others = c.get_mut.follows.lender place; foreign = p.foreign } in
    other-room p q c.args.text.now place refl refl
    (hash_map_updates_text c.args.text.now p.others (c.get_mut.follows.lender place) (Some place)
    ((c.get_mut.follows.holds place).3 (search rules)))
    c.requires

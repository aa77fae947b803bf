-- Only that of the spelling is written.
use Rattle.std.proofs.Common.{rules, ◌≡◌, ◌∙◌, ℕ, sym, ap, cond, arith, length, vec_len}
use Rattle.htmd_html5_state.specs.Foreign.{is_in_any_case}
use Rattle.htmd_html5_state.specs.ForeignPlaces.{number_of, spelling_place}
use Rattle.htmd_html5_state.proofs.ForeignPlacesLemmas.{place_by-put, set_at}
use Rattle.htmd_html5_state.proofs.foreign_places.ForeignPlaces.replace.Goals as goal

pub returns-in-Some-get_mut-clause-places : goal.returns-in-Some-get_mut-clause-places
returns-in-Some-get_mut-clause-places c = λ old s.
    let size : vec_len c.args.self.now.places ≡ length c.args.self.now.places.items = search rules in
    let within = old.within c.args.text.now c.in-Some.number.now (sym c.in-Some.ensures.value) in
    let place : ℕ = c.replace.new.dest in
    place_by-put (number_of c.args.self.now) _ old c.args.text.now c.in-Some.number.now
    (sym c.in-Some.ensures.value) c.args.self.now.places.items _ place
    (λ m. set_at c.args.self.now.places.items c.in-Some.number.now place m (omega (arith, within, size)))
    s
    ∙ ap (λ (n : ℕ). cond (is_in_any_case c.args.text.now s) n (spelling_place c.args.self.now s))
    c.replace.ensures.after

-- A name in lower case that isn't held is nowhere.
use Rattle.std.proofs.Common.{◌∙◌, ℕ, List, ap, sym, get_or}
use Rattle.htmd_html5_state.specs.ForeignPlaces.{number_of, place_by}
use Rattle.htmd_html5_state.proofs.ForeignPlacesLemmas.{in_lower_case, not_held}
use Rattle.htmd_html5_state.proofs.foreign_places.ForeignPlaces.find.Goals as goal

pub returns-in-None-clause-place : goal.returns-in-None-clause-place
returns-in-None-clause-place c = λ old.
    let ps : List ℕ = c.args.self.now.places.items in
    let s : List ℕ = c.args.text.now in
    sym (ap (λ (t : List ℕ). place_by ps (number_of c.args.self.now t))
    (in_lower_case s (rw c.as_bytes.ensures.value at (sym c.is_lower_case.ensures ∙ c.if-is_lower_case.true)))
    ∙ not_held (λ n. get_or ps n 0) ps (number_of c.args.self.now s) (sym c.held.ensures ∙ c.in-None.is))

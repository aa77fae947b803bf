-- An element in scope stands no further out than its bound.
use Rattle.std.proofs.Common.{ℕ, List, sym, ap, ◌∙◌, subst}
use Rattle.htmd_html5_state.specs.Names.{html, name_of}
use Rattle.htmd_html5_state.specs.OpenElements.{OpenValue, has_name}
use Rattle.htmd_html5_state.specs.Places.{IsPlaced, is_from, innermost, bounds_in}
use Rattle.htmd_html5_state.specs.declared.sets.Scope.TheVariants.{Special}
use Rattle.htmd_html5_state.proofs.PlacesLemmas.{scope-by_places}
use Rattle.htmd_html5_state.proofs.open_elements.OpenElements.is_closable.Goals as goal

pub returns : goal.returns
returns c =
    let at : IsPlaced c.self.inside.places c.args.self.now =
    subst (λ (x : List OpenValue). IsPlaced c.self.inside.places x) c.self.view_is c.self.invariant in
    c.is_from.ensures
    ∙ (ap (λ (b : ℕ). is_from b c.name_place.result) c.bound.ensures
    ∙ (ap (is_from (innermost (bounds_in Special) c.args.self.now)) (c.name_place.ensures c.args.self.now at)
    ∙ sym (scope-by_places (has_name (html (name_of c.args.name.now))) Special c.args.self.now)))

-- An element in scope stands no further out than its bound.
use Rattle.std.proofs.Common.{ℕ, List, sym, ap, ◌∙◌, subst}
use Rattle.htmd_html5_state.specs.OpenElements.{OpenValue, is_in}
use Rattle.htmd_html5_state.specs.Places.{IsPlaced, is_from, innermost}
use Rattle.htmd_html5_state.proofs.PlacesLemmas.{scope-by_places}
use Rattle.htmd_html5_state.proofs.open_elements.OpenElements.is_in_scope.Goals as goal

pub returns : goal.returns
returns c =
    let at : IsPlaced c.self.inside.places c.args.self.now =
    subst (λ (x : List OpenValue). IsPlaced c.self.inside.places x) c.self.view_is c.self.invariant in
    c.has_from.ensures c.args.self.now at
    ∙ (ap (λ (b : ℕ). is_from b (innermost (is_in c.args.set) c.args.self.now)) c.bound.ensures
    ∙ sym (scope-by_places (is_in c.args.set) c.args.scope c.args.self.now))

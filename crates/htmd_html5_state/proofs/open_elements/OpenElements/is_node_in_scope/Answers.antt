-- It stands further in than the bound.
use Rattle.std.proofs.Common.{ℕ, List, sym, ap, ◌∙◌, subst}
use Rattle.std.specs.Prelude.{nat_lt}
use Rattle.htmd_html5_state.specs.OpenElements.{OpenValue}
use Rattle.htmd_html5_state.specs.Places.{IsPlaced, innermost, bounds_in}
use Rattle.htmd_html5_state.specs.declared.sets.Scope.TheVariants.{Default}
use Rattle.htmd_html5_state.proofs.PlacesLemmas.{node-by_places}
use Rattle.htmd_html5_state.proofs.open_elements.OpenElements.is_node_in_scope.Goals as goal

pub returns : goal.returns
returns c =
    let at : IsPlaced c.self.inside.places c.args.self.now =
    subst (λ (x : List OpenValue). IsPlaced c.self.inside.places x) c.self.view_is c.self.invariant in
    ap (λ (b : ℕ). nat_lt b c.node_place.result) c.bound.ensures
    ∙ (ap (nat_lt (innermost (bounds_in Default) c.args.self.now)) (c.node_place.ensures c.args.self.now at)
    ∙ sym (node-by_places c.args.node c.args.self.now))

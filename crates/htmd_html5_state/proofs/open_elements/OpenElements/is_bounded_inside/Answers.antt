-- The bound stands further in than it.
use Rattle.std.proofs.Common.{ℕ, List, sym, ap, ◌∙◌, subst}
use Rattle.std.specs.Prelude.{nat_lt}
use Rattle.htmd_html5_state.specs.OpenElements.{OpenValue, is_node}
use Rattle.htmd_html5_state.specs.Places.{IsPlaced, innermost}
use Rattle.htmd_html5_state.proofs.PlacesLemmas.{inside-by_places}
use Rattle.htmd_html5_state.proofs.open_elements.OpenElements.is_bounded_inside.Goals as goal

pub returns : goal.returns
returns c =
    let at : IsPlaced c.self.inside.places c.args.self.now =
    subst (λ (x : List OpenValue). IsPlaced c.self.inside.places x) c.self.view_is c.self.invariant in
    ap (λ (b : ℕ). nat_lt b c.bound.result) (c.node_place.ensures c.args.self.now at)
    ∙ (ap (nat_lt (innermost (is_node c.args.node) c.args.self.now)) c.bound.ensures
    ∙ sym (inside-by_places c.args.node c.args.self.now))

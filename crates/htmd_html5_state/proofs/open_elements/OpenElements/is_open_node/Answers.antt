-- An open element has a place.
use Rattle.std.proofs.Common.{List, sym, ap, ◌∙◌, subst}
use Rattle.std.specs.Prelude.{nat_lt}
use Rattle.htmd_html5_state.specs.OpenElements.{OpenValue}
use Rattle.htmd_html5_state.specs.Places.{IsPlaced}
use Rattle.htmd_html5_state.proofs.PlacesLemmas.{open_node-by_place}
use Rattle.htmd_html5_state.proofs.open_elements.OpenElements.is_open_node.Goals as goal

pub returns : goal.returns
returns c =
    let at : IsPlaced c.self.inside.places c.args.self.now =
    subst (λ (x : List OpenValue). IsPlaced c.self.inside.places x) c.self.view_is c.self.invariant in
    ap (nat_lt 0) (c.node_place.ensures c.args.self.now at) ∙ sym (open_node-by_place c.args.node c.args.self.now)

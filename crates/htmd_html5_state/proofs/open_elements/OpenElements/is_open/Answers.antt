-- An open element has a place.
use Rattle.std.proofs.Common.{List, sym, ◌∙◌, subst}
use Rattle.htmd_html5_state.specs.OpenElements.{OpenValue, is_in}
use Rattle.htmd_html5_state.specs.Places.{IsPlaced}
use Rattle.htmd_html5_state.proofs.PlacesLemmas.{open-by_place}
use Rattle.htmd_html5_state.proofs.open_elements.OpenElements.is_open.Goals as goal

pub returns : goal.returns
returns c =
    let at : IsPlaced c.self.inside.places c.args.self.now =
    subst (λ (x : List OpenValue). IsPlaced c.self.inside.places x) c.self.view_is c.self.invariant in
    c.has_from.ensures c.args.self.now at ∙ sym (open-by_place (is_in c.args.set) c.args.self.now)

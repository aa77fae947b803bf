-- Only that of the name is written.
use Rattle.std.proofs.Common.{refl}
use Rattle.htmd_html5_state.specs.declared.places.NamePlaces.{NamePlaces}
use Rattle.htmd_html5_state.proofs.PlacesLemmas.{tag-put}
use Rattle.htmd_html5_state.proofs.places.NamePlaces.replace_tag.Goals as goal

pub returns-clause-places : goal.returns-clause-places
returns-clause-places c =
    let q : NamePlaces = record {
      tags = c.replace_place.new.held;
      others = c.args.self.now.others;
      foreign = c.args.self.now.foreign;
    } in
    tag-put c.args.self.now q c.args.tag c.number.result c.args.place c.number.ensures.value
    c.replace_place.ensures.places (λ s. refl)

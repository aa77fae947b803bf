-- The name is held, and is nowhere.
use Rattle.std.proofs.Common.{Some, string_bytes, refl}
use Rattle.std.proofs.lemmas.Map.Text.{hash_map_updates_text}
use Rattle.htmd_html5_state.specs.declared.places.NamePlaces.{NamePlaces}
use Rattle.htmd_html5_state.proofs.PlacesLemmas.{other-added, other-kept}
use Rattle.htmd_html5_state.proofs.places.NamePlaces.add.Goals as goal

pub returns-clause-places : goal.returns-clause-places
returns-clause-places c =
    let q : NamePlaces = record {
      tags = c.args.self.now.tags;
      others = c.insert.new.self;
      foreign = c.args.self.now.foreign;
    } in
    other-added c.args.self.now q (string_bytes c.args.text) refl
    (hash_map_updates_text (string_bytes c.args.text) c.args.self.now.others c.insert.new.self (Some 0)
    c.in_ok-insert.ensures.updates)
    c.requires

pub returns-clause-kept : goal.returns-clause-kept
returns-clause-kept c =
    let q : NamePlaces = record {
      tags = c.args.self.now.tags;
      others = c.insert.new.self;
      foreign = c.args.self.now.foreign;
    } in
    other-kept c.args.self.now q (string_bytes c.args.text) 0 refl refl
    (hash_map_updates_text (string_bytes c.args.text) c.args.self.now.others c.insert.new.self (Some 0)
    c.in_ok-insert.ensures.updates)

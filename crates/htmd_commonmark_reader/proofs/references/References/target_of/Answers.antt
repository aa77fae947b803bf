-- A definition with the key, or none.
use Rattle.std.proofs.Common.{◌∙◌, ap}
use Rattle.std.specs.Option.{option_map}
use Rattle.std.specs.Prelude.{map}
use Rattle.htmd_commonmark_reader.specs.Definitions.{held_of}
use Rattle.htmd_commonmark_reader.specs.Keys.{with_key}
use Rattle.htmd_commonmark_reader.proofs.ReferencesLemmas.{targeted, target_with}
use Rattle.htmd_commonmark_reader.proofs.references.References.target_of.Goals as goal

pub returns-in-Some : goal.returns-in-Some
returns-in-Some c =
    ap (option_map (targeted c.args.rest.now))
    (c.in-Some.ensures ∙ ap (with_key (map held_of c.args.self.now.definitions.items)) c.as_bytes.ensures.value)
    ∙ target_with c.args.self.now.definitions.items c.args.key.now c.args.rest.now c.utf8.key

pub returns-in-None : goal.returns-in-None
returns-in-None c =
    ap (option_map (targeted c.args.rest.now))
    (c.in-None.ensures ∙ ap (with_key (map held_of c.args.self.now.definitions.items)) c.as_bytes.ensures.value)
    ∙ target_with c.args.self.now.definitions.items c.args.key.now c.args.rest.now c.utf8.key

-- No more definitions, or one more.
use Rattle.std.proofs.Common.{◌<◌, ◌∙◌, ◌++◌, ◌∷◌, [], rules, length, map, option_map, ap, sym}
use Rattle.std.proofs.lemmas.List.{append-nil, map-append}
use Rattle.std.specs.String.{string_bytes}
use Rattle.std.specs.Prelude.{◌==◌, encode_utf8_all}
use Rattle.htmd_commonmark_reading.specs.Characters.{unescaped}
use Rattle.htmd_commonmark_reading.specs.LinkDefinitions as spec
use Rattle.htmd_commonmark_reading.specs.LinkDefinitions.{definitions, label_key}
use Rattle.htmd_commonmark_reader.specs.Definitions.{defined_of, held_of, encoded}
use Rattle.htmd_commonmark_reader.specs.declared.definitions.Definition.{Definition}
use Rattle.htmd_commonmark_reader.proofs.DefinitionsLemmas.{none_labelled, one_labelled, shorter, found_more}
use Rattle.htmd_commonmark_reader.proofs.DefinitionsLemmas.{same_definition}
use Rattle.htmd_commonmark_reader.proofs.definitions.definitions.Goals as goal

pub returns-then-is_empty-clause-rest : goal.returns-then-is_empty-clause-rest
returns-then-is_empty-clause-rest c =
    let none = none_labelled c.loop-raw.rest.now (string_bytes c.in_ok-key.key) (defined_of c.in-Some.raw)
    c.is_empty.result c.in-Some.ensures c.in_ok-key.ensures
    (c.is_empty.ensures ∙ ap (λ t. length t == 0) c.as_str.ensures.value) c.if-is_empty.true in
    c.stripped_end.ensures ∙ sym (ap (λ (d : spec.Definitions). d.rest) none) ∙ c.loop-raw.invariant.rest

pub returns-then-is_empty-clause-found : goal.returns-then-is_empty-clause-found
returns-then-is_empty-clause-found c =
    let none = none_labelled c.loop-raw.rest.now (string_bytes c.in_ok-key.key) (defined_of c.in-Some.raw)
    c.is_empty.result c.in-Some.ensures c.in_ok-key.ensures
    (c.is_empty.ensures ∙ ap (λ t. length t == 0) c.as_str.ensures.value) c.if-is_empty.true in
    sym (append-nil (map held_of c.loop-raw.found.items))
    ∙ ap (λ (d : spec.Definitions). map held_of c.loop-raw.found.items ++ map encoded d.found) (sym none)
    ∙ c.loop-raw.invariant.found

pub loop-raw-smaller : goal.loop-raw-smaller
loop-raw-smaller c =
    let small : length c.in-Some.raw.rest.now < length c.loop-raw.rest.now =
    shorter c.loop-raw.rest.now (defined_of c.in-Some.raw) c.in-Some.ensures in
    small

pub loop-raw-preserved : goal.loop-raw-preserved
loop-raw-preserved c =
    let raw = c.in-Some.raw in
    let one = one_labelled c.loop-raw.rest.now (string_bytes c.in_ok-key.key) (defined_of raw)
    c.is_empty.result c.in-Some.ensures c.in_ok-key.ensures
    (c.is_empty.ensures ∙ ap (λ t. length t == 0) c.as_str.ensures.value) c.if-is_empty.false in
    let before = map held_of c.loop-raw.found.items in
    let new : Definition = record {
      key = c.in_ok-key.key;
      address = c.in_ok-address.address;
      title = c.in_ok-title.title;
    } in
    let same = same_definition (string_bytes c.in_ok-key.key) (encode_utf8_all (label_key raw.label.now))
    (string_bytes c.in_ok-address.address) (unescaped raw.address.now)
    (option_map (λ t. string_bytes t) c.in_ok-title.title) (option_map (λ t. unescaped t.now) raw.title)
    c.in_ok-key.ensures c.in_ok-address.ensures c.in_ok-title.ensures in
    record {
      text = search rules;
      rest = ap (λ (d : spec.Definitions). d.rest) (sym one) ∙ c.loop-raw.invariant.rest;
      found = found_more before
          (map held_of c.args.found.now.items ++ map encoded ((definitions c.args.text.now).found))
          (map held_of c.push.new.self.items) (map encoded ((definitions raw.rest.now).found)) (held_of new)
          (encoded (defined_of raw).definition)
          (ap (λ (d : spec.Definitions). before ++ map encoded d.found) (sym one) ∙ c.loop-raw.invariant.found) same
          (ap (map held_of) c.in_ok-push.ensures.items ∙ map-append held_of c.loop-raw.found.items (new ∷ []));
    }

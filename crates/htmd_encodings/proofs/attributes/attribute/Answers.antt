-- The name is the first byte and a run.
use Rattle.std.proofs.Common.{◌∙◌, ap, rules}
use Rattle.std.proofs.lemmas.List.{take_rest}
use Rattle.htmd_lexical.specs.CharacterClasses.{leading_run}
use Rattle.htmd_encodings.specs.Attributes.{is_name_byte}
use Rattle.htmd_encodings.proofs.AttributesLemmas.{attribute_cut, attribute_split}
use Rattle.htmd_encodings.proofs.attributes.attribute.Goals as goal

pub split_at-requires : goal.split_at-requires
split_at-requires c =
    let bytes = c.args.bytes.now in
    let run = c.split_run.ensures.run ∙ ap (leading_run is_name_byte) (take_rest bytes 1) in
    attribute_cut bytes c.split_run.result.0.now (search rules) run

pub returns : goal.returns
returns c =
    let bytes = c.args.bytes.now in
    let run = c.split_run.ensures.run ∙ ap (leading_run is_name_byte) (take_rest bytes 1) in
    c.after_name.ensures
    ∙ attribute_split bytes c.split_run.result.0.now c.split_at.result.0.now c.split_at.result.1.now (search rules)
    run c.split_at.ensures.front c.split_at.ensures.back

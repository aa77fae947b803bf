-- What has a name, is an attribute.
use Rattle.std.proofs.Common.{◌≡◌, false, sym, ◌∙◌}
use Rattle.htmd_lexical.specs.CharacterClasses.{holds_control}
use Rattle.htmd_tree.proofs.TagPartsLemmas.{attribute_is_named}
use Rattle.htmd_tree.proofs.reader.attributes.attribute.Goals as goal

pub returns : goal.returns
returns c =
    let h : holds_control c.split_run.result.0.now ≡ false =
    rw c.as_bytes.ensures.value at (sym c.holds_control.ensures ∙ c.if-holds_control.false) in
    c.behind_name.ensures
    ∙ attribute_is_named c.args.text.now c.split_run.result.0.now c.split_run.result.1.now c.split_run.ensures.run
    c.split_run.ensures.rest (sym c.is_empty.ensures ∙ c.if-is_empty.false) h

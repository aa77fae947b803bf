-- By the label.
use Rattle.std.proofs.Common.{◌≡◌, ◌∙◌, true, false, ap, sym, subst, rules}
use Rattle.std.specs.Prelude.{IfOk, option_map}
use Rattle.htmd_lexical.specs.CharacterClasses.{is_empty}
use Rattle.htmd_commonmark_reading.specs.Brackets.{target_of}
use Rattle.htmd_commonmark_reading.specs.LinkDefinitions.{label_key}
use Rattle.htmd_commonmark_reader.specs.Fronts.{front_of}
use Rattle.htmd_commonmark_reader.specs.References.{references_of, found_of}
use Rattle.htmd_commonmark_reader.proofs.DefinitionsLemmas.{key_length}
use Rattle.htmd_commonmark_reader.proofs.ReferencesLemmas.{key_chars, own_label, empty_label, blank_label}
use Rattle.htmd_commonmark_reader.proofs.link_targets.reference_target.Goals as goal

pub returns-then-not-is_empty : goal.returns-then-not-is_empty
returns-then-not-is_empty c =
    let l = front_of c.in-Some.label in
    let refs = references_of c.args.references.now in
    let spelled = c.as_str-text.ensures.value ∙ c.in_ok-key.ensures in
    c.target_of.ensures
    ∙ ap (λ k. target_of refs k l.rest)
    (key_chars c.as_str-text.result.now (label_key l.front) c.as_str-text.utf8 spelled)
    ∙ own_label refs c.args.content.now c.args.after.now l c.in-Some.ensures
    (sym (key_length (label_key l.front) c.as_str-text.result.now spelled) ∙ sym c.is_empty.ensures
    ∙ c.if-not-is_empty.true)

pub returns-then-is_empty : goal.returns-then-is_empty
returns-then-is_empty c =
    let l = front_of c.in-Some.label in
    let refs = references_of c.args.references.now in
    let spelled = c.as_str-text.ensures.value ∙ c.in_ok-key.ensures in
    let none : is_empty l.front ≡ true = search rules in
    subst (λ x. IfOk c.content_target-then-is_empty.result (λ found. option_map found_of found ≡ x))
    (empty_label refs c.args.content.now c.args.after.now l c.in-Some.ensures
    (sym (key_length (label_key l.front) c.as_str-text.result.now spelled) ∙ sym c.is_empty.ensures
    ∙ c.if-not-is_empty.false) none)
    c.content_target-then-is_empty.ensures

pub returns : goal.returns
returns c =
    let l = front_of c.in-Some.label in
    let refs = references_of c.args.references.now in
    let spelled = c.as_str-text.ensures.value ∙ c.in_ok-key.ensures in
    let some : is_empty l.front ≡ false = search rules in
    subst (λ x. IfOk c.content_target-else-is_empty.result (λ found. option_map found_of found ≡ x))
    (blank_label refs c.args.content.now c.args.after.now l c.in-Some.ensures
    (sym (key_length (label_key l.front) c.as_str-text.result.now spelled) ∙ sym c.is_empty.ensures
    ∙ c.if-not-is_empty.false) some)
    c.content_target-else-is_empty.ensures

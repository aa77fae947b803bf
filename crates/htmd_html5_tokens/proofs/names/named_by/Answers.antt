-- The name is the row's, or isn't.
use Rattle.std.proofs.Common.{◌∙◌, ap, sym, refl}
use Rattle.std.specs.Str.{bytes_eq}
use Rattle.htmd_lexical.specs.CharacterClasses.{begins_with}
use Rattle.htmd_html5_tokens.proofs.NamesLemmas.{not_its_name, split_row, its_name, other_name}
use Rattle.htmd_html5_tokens.proofs.names.named_by.Goals as goal

pub returns-then-not-begins_with : goal.returns-then-not-begins_with
returns-then-not-begins_with c =
    not_its_name c.args.name.now c.args.row.now
    (ap (begins_with c.args.name.now) (sym c.as_bytes.ensures.value) ∙ sym c.begins_with.ensures
    ∙ c.if-not-begins_with.true)

pub returns-then-eq : goal.returns-then-eq
returns-then-eq c =
    its_name c.args.row.now c.args.name.now c.unwrap_or.result.0.now c.unwrap_or.result.1.now
    (rw c.unwrap_or.ensures
    (split_row c.args.row.now c.split_once.result _ c.split_once.ensures.cases refl refl))
    (ap (bytes_eq c.args.name.now) (sym c.as_bytes-2.ensures.value) ∙ sym c.eq.ensures ∙ c.if-eq.true)

pub returns-else-eq : goal.returns-else-eq
returns-else-eq c =
    other_name c.args.row.now c.args.name.now c.unwrap_or.result.0.now c.unwrap_or.result.1.now
    (rw c.unwrap_or.ensures
    (split_row c.args.row.now c.split_once.result _ c.split_once.ensures.cases refl refl))
    (ap (bytes_eq c.args.name.now) (sym c.as_bytes-2.ensures.value) ∙ sym c.eq.ensures ∙ c.if-eq.false)

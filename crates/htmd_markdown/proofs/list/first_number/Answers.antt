-- What `parse` gives is the number, or 1.
use Rattle.std.proofs.Common.{◌∙◌, sym, ap, subst}
use Rattle.std.specs.Prelude.{FitsSigned, unsigned_abs}
use Rattle.std.specs.Int.{w32}
use Rattle.std.specs.Option.{option_copied}
use Rattle.std.proofs.lemmas.Int.{to_z-of_z}
use Rattle.htmd_markdown.specs.Lists.{first_number}
use Rattle.htmd_markdown.proofs.FirstNumberLemmas.{read_number, counted, positive}
use Rattle.htmd_markdown.proofs.list.first_number.Goals as goal

pub returns-in-Ok : goal.returns-in-Ok
returns-in-Ok c =
    let read = read_number c.in-Some.text.now c.parse.result c.parse.ensures.value.0 in
    let told = c.in-Ok.ensures.value.0 in
    let same = to_z-of_z w32 c.in-Ok.number (subst (FitsSigned w32) (sym told.1) told.0.1) in
    let value = positive c.in-Ok.number (rw same at c.if-number-gt0.true) ∙ sym (ap unsigned_abs same) in
    c.unsigned_abs.ensures.value
    ∙ sym (ap (λ start. first_number (option_copied start)) c.in-Some.is ∙ read ∙ ap counted c.in-Ok.is
    ∙ value)

pub returns-in-Err : goal.returns-in-Err
returns-in-Err c =
    let read = read_number c.in-Some.text.now c.parse.result c.parse.ensures.value.0 in
    sym (ap (λ start. first_number (option_copied start)) c.in-Some.is ∙ read ∙ ap counted c.in-Err.is)

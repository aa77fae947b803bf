-- A field that isn't null.
use Rattle.std.proofs.Common.{◌∙◌, sym}
use Rattle.htmd.specs.PageConverters.{settings_of}
use Rattle.htmd_cli.proofs.RowsLemmas.{field_answer}
use Rattle.htmd_cli.proofs.answers.answer_field.Goals as goal

pub returns : goal.returns
returns g c =
    field_answer (settings_of c.args.converter.now) c.args.field.now c.as_slice.result.now
    c.read_field.new.page.items c.args.page.now.items c.args.answer.now.items c.answer_page.new.answer.items
    c.answer_page.result (sym c.eq.ensures ∙ c.if-eq.false) c.as_slice.ensures.value c.in_ok-read_field.ensures
    c.requires.page c.answer_page.ensures

-- What a page becomes, as a field.
use Rattle.std.proofs.Common.{subst, sym}
use Rattle.htmd.specs.PageConverters.{settings_of}
use Rattle.htmd.specs.PageOutputs.{IsOutputOf}
use Rattle.htmd_streams.specs.Fields.{written_field}
use Rattle.htmd_cli.proofs.RowsLemmas.{page_answer}
use Rattle.htmd_cli.proofs.answers.answer_page.Goals as goal

pub returns-in_ok-write_field-in-Ok : goal.returns-in_ok-write_field-in-Ok
returns-in_ok-write_field-in-Ok g c = (
  written_field c.as_bytes.result.now,
  page_answer (settings_of c.args.converter.now) c.args.page.now c.as_bytes.result.now
      (subst (IsOutputOf (settings_of c.args.converter.now) c.args.page.now) (sym c.as_bytes.ensures.value)
      c.in-Ok.ensures.ok),
  c.in_ok-write_field-in-Ok.ensures,
)

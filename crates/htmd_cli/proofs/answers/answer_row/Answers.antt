-- A row, part by part.
use Rattle.htmd.specs.PageConverters.{settings_of}
use Rattle.htmd_cli.proofs.RowsLemmas.{row_answer}
use Rattle.htmd_cli.proofs.answers.answer_row.Goals as goal

pub returns : goal.returns
returns g c =
    row_answer (settings_of c.args.converter.now) c.args.row.now c.fields_of.result.1.now
    c.fields_of.result.0.now c.args.answer.now.items c.extend_from_slice.new.self.items
    c.answer_field.new.answer.items c.push.new.self.items c.fields_of.ensures.last c.fields_of.ensures.others
    c.requires.answer c.in_ok-extend_from_slice.ensures.items c.in_ok-refused.ensures c.in_ok-push.ensures.items

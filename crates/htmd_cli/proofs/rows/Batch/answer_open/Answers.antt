-- The answer after those that wait.
use Rattle.htmd.specs.PageConverters.{settings_of}
use Rattle.htmd_cli.proofs.BatchesLemmas.{answered_row}
use Rattle.htmd_cli.proofs.rows.Batch.answer_open.Goals as goal

pub returns-in-Some-clause-ok : goal.returns-in-Some-clause-ok
returns-in-Some-clause-ok g c =
    answered_row (settings_of c.args.converter.now) c.args.self.now.begun.items c.as_slice.result.now
    c.args.self.now.answers.items c.extend_from_slice.new.self.items c.as_slice-2.result.now
    c.answer_row.new.answer.items c.as_slice.ensures.value c.in_ok-refused.ensures
    c.in_ok-extend_from_slice.ensures.items c.as_slice-2.ensures.value

pub returns-in_default-clause-ok : goal.returns-in_default-clause-ok
returns-in_default-clause-ok g c =
    answered_row (settings_of c.args.converter.now) c.args.self.now.begun.items c.as_slice.result.now
    c.args.self.now.answers.items c.extend_from_slice.new.self.items c.as_slice-2.result.now
    c.answer_row.new.answer.items c.as_slice.ensures.value c.in_ok-refused.ensures
    c.in_ok-extend_from_slice.ensures.items c.as_slice-2.ensures.value

-- The last row, if no line feed ends it.
use Rattle.std.proofs.Common.{◌∙◌, sym}
use Rattle.htmd.specs.PageConverters.{settings_of}
use Rattle.htmd_cli.proofs.BatchesLemmas.{end_ok, end_err, last_alone}
use Rattle.htmd_cli.proofs.rows.Batch.take_end.Goals as goal

pub returns-clause-ok : goal.returns-clause-ok
returns-clause-ok g c =
    let was = c.args.self.now in
    let new = c.answer_open.new.self in
    end_ok (settings_of c.args.converter.now) was.begun.items was.answers.items new.answers.items
    was.answered new.answered c.answer_open.result
    (last_alone was.begun.items c.as_slice.result.now _ (sym c.is_empty.ensures ∙ c.if-is_empty.false)
    c.as_slice.ensures.len c.as_slice.ensures.value c.requires.begun (sym c.eq.ensures ∙ c.if-eq.false))
    c.answer_open.ensures.ok c.answer_open.ensures.answered

pub returns-clause-err : goal.returns-clause-err
returns-clause-err g c =
    let was = c.args.self.now in
    let new = c.answer_open.new.self in
    end_err (settings_of c.args.converter.now) was.begun.items was.answers.items new.answers.items
    was.answered new.answered c.answer_open.result c.answer_open.ensures.err c.answer_open.ensures.err_answered

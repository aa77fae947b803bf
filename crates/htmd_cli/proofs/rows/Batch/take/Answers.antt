-- One row more, the end mark, and what follows the last line feed.
use Rattle.std.proofs.Common.{◌∙◌, ◌++◌, ap, sym, refl}
use Rattle.std.specs.Str.{bytes_eq}
use Rattle.htmd.specs.Characters.{line_feed}
use Rattle.htmd_cli.specs.Batches.{rows_from}
use Rattle.htmd.specs.PageConverters.{settings_of}
use Rattle.htmd_streams.specs.Lines.{end_mark, lacks}
use Rattle.htmd_cli.proofs.BatchesLemmas.{Answers-none, Answers-row, Answers-then, Answers-like, stopped}
use Rattle.htmd_cli.proofs.BatchesLemmas.{row_ends, data_ends, lacks_on}
use Rattle.htmd_cli.proofs.rows.Batch.take.Goals as goal

pub loop-front-init : goal.loop-front-init
loop-front-init g c = record {
  begun = c.requires.begun;
  answers = Answers-none (settings_of c.args.converter.now) _ _ _ _ (λ tail. refl);
}

pub loop-front-preserved : goal.loop-front-preserved
loop-front-preserved g c =
    let settings = settings_of c.args.converter.now in
    let was = c.loop-front.self in
    let row = c.extend_from_slice.new.self.items in
    let new = c.answer_open.new.self in
    let done = c.in_ok-answer_open.ensures in
    record {
      begun = ap (lacks line_feed) done.next;
      answers = Answers-then settings _ (λ tail. rows_from was.begun.items (c.loop-front.rest.now ++ tail)) _ _
          was.answers.items _ _ was.answered _ c.loop-front.invariant.answers
          (Answers-row settings _ _ row was.answers.items new.answers.items was.answered new.answered done.ok
          done.answered
          (λ tail. row_ends was.begun.items c.in-Some.front.now c.in-Some.behind.now c.loop-front.rest.now row
          new.begun.items tail c.loop-front.invariant.begun c.in-Some.ensures c.in_ok-extend_from_slice.ensures.items
          (ap (λ t. bytes_eq t end_mark) (sym c.as_slice.ensures.value) ∙ (sym c.eq.ensures ∙ c.if-eq.false))
          done.next));
    }

pub returns-in_err-extend_from_slice-clause-err : goal.returns-in_err-extend_from_slice-clause-err
returns-in_err-extend_from_slice-clause-err g c =
    let was = c.loop-front.self in
    stopped (settings_of c.args.converter.now) _
    (λ tail. rows_from was.begun.items (c.loop-front.rest.now ++ tail)) _ was.answers.items _ was.answered _
    c.loop-front.invariant.answers

pub returns-in_err-extend_from_slice-2-clause-err : goal.returns-in_err-extend_from_slice-2-clause-err
returns-in_err-extend_from_slice-2-clause-err g c =
    let was = c.loop-front.self in
    stopped (settings_of c.args.converter.now) _
    (λ tail. rows_from was.begun.items (c.loop-front.rest.now ++ tail)) _ was.answers.items _ was.answered _
    c.loop-front.invariant.answers

pub returns-in_err-answer_open-clause-err : goal.returns-in_err-answer_open-clause-err
returns-in_err-answer_open-clause-err g c =
    let settings = settings_of c.args.converter.now in
    let was = c.loop-front.self in
    let new = c.answer_open.new.self in
    stopped settings _ (λ tail. rows_from was.begun.items (c.loop-front.rest.now ++ tail)) _ new.answers.items _
    new.answered _
    (Answers-like settings _ _ (λ tail. rows_from was.begun.items (c.loop-front.rest.now ++ tail))
    (λ tail. rows_from was.begun.items (c.loop-front.rest.now ++ tail)) _ was.answers.items new.answers.items _
    was.answered new.answered c.loop-front.invariant.answers (λ tail. refl) (λ tail. refl)
    c.in_err-answer_open.ensures.err c.in_err-answer_open.ensures.err_answered)

pub returns-then-eq-clause-ok : goal.returns-then-eq-clause-ok
returns-then-eq-clause-ok g c =
    let settings = settings_of c.args.converter.now in
    let was = c.loop-front.self in
    let row = c.extend_from_slice.new.self.items in
    Answers-then settings _ (λ tail. rows_from was.begun.items (c.loop-front.rest.now ++ tail)) _ _ was.answers.items
    _ _ was.answered _ c.loop-front.invariant.answers
    (Answers-none settings _ _ was.answers.items was.answered
    (λ tail. data_ends was.begun.items c.in-Some.front.now c.in-Some.behind.now c.loop-front.rest.now row tail
    c.loop-front.invariant.begun c.in-Some.ensures c.in_ok-extend_from_slice.ensures.items
    (ap (λ t. bytes_eq t end_mark) (sym c.as_slice.ensures.value) ∙ (sym c.eq.ensures ∙ c.if-eq.true))))

pub returns-clause-begun : goal.returns-clause-begun
returns-clause-begun g c =
    lacks_on c.loop-front.self.begun.items c.loop-front.rest.now c.extend_from_slice-2.new.self.items
    c.in_ok-extend_from_slice-2.ensures.items c.loop-front.invariant.begun c.in_default.ensures

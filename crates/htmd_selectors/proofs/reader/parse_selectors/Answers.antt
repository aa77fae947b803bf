-- The error that ended the reading, and what was read to the end.
use Rattle.std.proofs.Common.{◌≡◌, rules, subst, arith, Ok, IfOk, IfErr}
use Rattle.std.proofs.lemmas.Result.{err_from_is_err_and}
use Rattle.htmd_selectors.specs.ReaderViews.{reading_of, IsFault}
use Rattle.htmd_selectors.specs.Views.{steps_in}
use Rattle.htmd_selectors.proofs.ReadingLemmas.{IsFault-at, IsFault-at_end, finished-at_end}
use Rattle.htmd_selectors.proofs.reader.parse_selectors.Goals as goal

pub returns-in_err-read-clause-err : goal.returns-in_err-read-clause-err
returns-in_err-read-clause-err c =
    let p = err_from_is_err_and c.from_residual.result c.from_residual.ensures.1 in
    rw (p.1, p.2)
    (IsFault-at c.args.text.now c.loop-place.place _ (reading_of c.loop-place.reader) _ (omega arith) (search rules)
    c.loop-place.invariant c.in_err-read.ensures.err)

pub returns-in_err-read-2-clause-err : goal.returns-in_err-read-2-clause-err
returns-in_err-read-2-clause-err c =
    let p = err_from_is_err_and c.from_residual-in_err-read-2.result c.from_residual-in_err-read-2.ensures.1 in
    rw (p.1, p.2)
    (IsFault-at_end c.args.text.now c.loop-place.place (reading_of c.loop-place.reader) _ (omega arith)
    c.loop-place.invariant c.in_err-read-2.ensures.err)

pub returns-clause-ok : goal.returns-clause-ok
returns-clause-ok c =
    subst (λ x. IfOk c.finish.result (λ s. x ≡ Ok (steps_in s)))
    (finished-at_end c.args.text.now c.loop-place.place (reading_of c.loop-place.reader) (reading_of c.read-2.new.self)
    (omega arith) c.loop-place.invariant c.in_ok-read-2.ensures.ok) c.finish.ensures.ok

pub returns-clause-err : goal.returns-clause-err
returns-clause-err c =
    subst (λ x. IfErr c.finish.result (IsFault x))
    (finished-at_end c.args.text.now c.loop-place.place (reading_of c.loop-place.reader) (reading_of c.read-2.new.self)
    (omega arith) c.loop-place.invariant c.in_ok-read-2.ensures.ok) c.finish.ensures.err

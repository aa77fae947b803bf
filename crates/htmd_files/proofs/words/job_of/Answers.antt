-- The fault of a word, and what was read to the end.
use Rattle.std.proofs.Common.{drop, ◌+◌, Ok, arith, subst, List, ℕ}
use Rattle.std.proofs.lemmas.Result.{err_from_is_err_and}
use Rattle.htmd_files.specs.Words.{take_all, take_word, reading, any, no_job}
use Rattle.htmd_files.specs.WordViews.{texts_of, job_in, expected_in, IsWordFault}
use Rattle.htmd_files.proofs.WordsLemmas.{word_taken, fault_of_all}
use Rattle.htmd_files.proofs.words.job_of.Goals as goal

pub returns-in_err-expected-clause-err : goal.returns-in_err-expected-clause-err
returns-in_err-expected-clause-err c =
    let p = err_from_is_err_and c.from_residual.result c.from_residual.ensures.1 in
    rw (p.1, p.2)
    (fault_of_all (texts_of (drop (c.loop-word.word-index + 1) c.args.words.now)) _
    (take_all (texts_of c.args.words.now) (Ok (reading any no_job))) _
    (word_taken c.args.words.now c.loop-word.word-index c.word-item.result
    (Ok (reading (expected_in c.loop-word.expected) (job_in c.loop-word.job))) _ (omega arith) c.word-item.is
    c.loop-word.invariant)
    (subst (λ (x : List ℕ). IsWordFault (take_word (expected_in c.loop-word.expected) x (job_in c.loop-word.job))
    c.in_err-expected.field-0.0) c.as_str.ensures.value c.in_err-expected.ensures.err))

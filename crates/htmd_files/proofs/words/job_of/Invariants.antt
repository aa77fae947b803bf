-- What was read so far, and the words that are left.
use Rattle.std.proofs.Common.{◌≡◌, drop, Ok}
use Rattle.htmd_files.specs.Words.{take_all, reading, any, no_job}
use Rattle.htmd_files.specs.WordViews.{texts_of, job_in, expected_in}
use Rattle.htmd_files.proofs.words.job_of.Given as goal

abbrev pub invariant-loop-word : goal.invariant-loop-word
invariant-loop-word l =
    take_all (texts_of (drop l.word-index l.words)) (Ok (reading (expected_in l.expected) (job_in l.job)))
    ≡ take_all (texts_of l.words) (Ok (reading any no_job))

-- The rows so far are answered, and the rest is what is open and what is left.
use Rattle.std.proofs.Common.{◌≡◌, ◌++◌, true, length, vec_items}
use Rattle.htmd.specs.Characters.{line_feed}
use Rattle.htmd_cli.specs.Batches.{Answers, rows_from}
use Rattle.htmd.specs.PageConverters.{settings_of}
use Rattle.htmd_streams.specs.Lines.{lacks}
use Rattle.htmd_cli.proofs.rows.Batch.take.Given as goal

abbrev pub invariant-loop-front : goal.invariant-loop-front
invariant-loop-front g l = record {
  begun : lacks line_feed (vec_items l.self.begun) ≡ true;
  answers : Answers (settings_of l.converter)
      (λ tail. rows_from (vec_items l.initial.self.begun) (l.bytes ++ tail))
      (λ tail. rows_from (vec_items l.self.begun) (l.rest ++ tail))
      (vec_items l.initial.self.answers) (vec_items l.self.answers) l.initial.self.answered l.self.answered;
}

abbrev pub decreases-loop-front : goal.decreases-loop-front
decreases-loop-front g l = length l.rest

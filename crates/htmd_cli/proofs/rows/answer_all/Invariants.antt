-- All reads so far are answered, and nothing waits.
use Rattle.std.proofs.Common.{◌≡◌, [], true, false, vec_items}
use Rattle.htmd.specs.Characters.{line_feed}
use Rattle.htmd.specs.PageConverters.{settings_of}
use Rattle.htmd_streams.specs.Lines.{lacks}
use Rattle.htmd_cli.proofs.BatchesLemmas.{Progress}
use Rattle.htmd_cli.proofs.rows.answer_all.Given as goal

abbrev pub invariant-loop : goal.invariant-loop
invariant-loop g l = record {
  unread : g.R.Source.has_failed l.source ≡ false;
  unwritten : g.W.Sink.has_failed l.sink ≡ false;
  waits : vec_items l.batch.answers ≡ [];
  begun : lacks line_feed (vec_items l.batch.begun) ≡ true;
  progress : Progress (settings_of l.converter) (g.R.Source.remaining l.initial.source)
      (g.R.Source.remaining l.source) (g.W.Sink.contents l.initial.sink) (g.W.Sink.contents l.sink)
      (vec_items l.batch.begun) l.batch.answered;
}

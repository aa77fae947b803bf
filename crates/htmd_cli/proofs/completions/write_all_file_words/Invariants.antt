-- No write has failed so far.
use Rattle.std.proofs.Common.{◌≡◌}
use Rattle.htmd_cli.proofs.completions.write_all_file_words.Given as goal

abbrev pub invariant-loop-row : goal.invariant-loop-row
invariant-loop-row g l = g.W.Sink.has_failed l.sink ≡ g.W.Sink.has_failed l.fn.sink

-- No write has failed so far.
use Rattle.std.proofs.Common.{◌≡◌}
use Rattle.htmd_cli.proofs.manual.write_sentence.Given as goal

abbrev pub invariant-loop-b : goal.invariant-loop-b
invariant-loop-b g l = g.W.Sink.has_failed l.sink ≡ g.W.Sink.has_failed l.fn.sink

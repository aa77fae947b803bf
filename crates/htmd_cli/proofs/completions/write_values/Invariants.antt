-- No write has failed so far.
use Rattle.std.proofs.Common.{◌≡◌}
use Rattle.htmd_cli.proofs.completions.write_values.Given as goal

abbrev pub invariant-loop-value : goal.invariant-loop-value
invariant-loop-value g l = g.W.Sink.has_failed l.sink ≡ g.W.Sink.has_failed l.fn.sink

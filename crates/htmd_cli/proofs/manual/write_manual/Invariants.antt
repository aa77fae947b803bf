-- No write has failed so far.
use Rattle.std.proofs.Common.{◌≡◌}
use Rattle.htmd_cli.proofs.manual.write_manual.Given as goal

abbrev pub invariant-loop-group : goal.invariant-loop-group
invariant-loop-group g l = g.W.Sink.has_failed l.sink ≡ g.W.Sink.has_failed l.fn.sink

-- No write has failed so far.
use Rattle.std.proofs.Common.{◌≡◌}
use Rattle.htmd_cli.proofs.help.write_option.Given as goal

abbrev pub invariant-loop-part : goal.invariant-loop-part
invariant-loop-part g l = g.W.Sink.has_failed l.sink ≡ g.W.Sink.has_failed l.fn.sink

-- What is gone from the rest was appended, and no write has failed so far.
use Rattle.std.proofs.Common.{◌≡◌, length}
use Rattle.htmd_streams.proofs.AppendsLemmas.{AppendsBut}
use Rattle.htmd_streams.proofs.sinks.write_all.Given as goal

abbrev pub invariant-loop-rest : goal.invariant-loop-rest
invariant-loop-rest g l = record {
  appended : AppendsBut (g.W.Sink.contents l.initial.sink) (g.W.Sink.contents l.sink) l.initial.rest l.rest;
  failure : g.W.Sink.has_failed l.sink ≡ g.W.Sink.has_failed l.initial.sink;
}

abbrev pub decreases-loop-rest : goal.decreases-loop-rest
decreases-loop-rest g l = length l.rest

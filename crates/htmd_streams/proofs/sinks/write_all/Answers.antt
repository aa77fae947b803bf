-- What is left to prove of `write_all`.
use Rattle.std.proofs.Common.{rules}
use Rattle.htmd_streams.proofs.AppendsLemmas.{AppendsBut-more}
use Rattle.htmd_streams.proofs.sinks.write_all.Goals as goal

pub loop-rest-preserved : goal.loop-rest-preserved
loop-rest-preserved g c = record {
  appended = AppendsBut-more _ _ _ _ _ _ c.loop-rest.invariant.appended c.in_ok-count.ensures.bytes;
  failure = search rules;
}

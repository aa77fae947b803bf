-- One code unit more.
use Rattle.std.proofs.Common.{arith}
use Rattle.htmd_encodings.proofs.DecodingLemmas.{units-more}
use Rattle.htmd_encodings.proofs.decoding.units_of.Goals as goal

pub loop-rest-preserved : goal.loop-rest-preserved
loop-rest-preserved c =
    units-more c.args.order c.loop-rest.waits _ c.loop-rest.rest.now _ _ _ c.unit_of-unit.result (omega arith)
    c.unit_of-unit.ensures c.is_leading_surrogate-waits.ensures c.in_ok-push.ensures.items c.loop-rest.invariant

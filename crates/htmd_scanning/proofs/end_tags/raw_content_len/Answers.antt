-- What is left to prove of `raw_content_len`.
use Rattle.std.proofs.Common.{arith}
use Rattle.htmd_lexical.specs.EndTags.{begins_own_end}
use Rattle.htmd_lexical.proofs.CharacterClassesLemmas.{up_to_more}
use Rattle.htmd_scanning.proofs.end_tags.raw_content_len.Goals as goal

pub loop-len-preserved : goal.loop-len-preserved
loop-len-preserved c =
    let more = up_to_more (begins_own_end c.args.name.now) c.args.bytes.now c.loop-len.len c.begins_own_end.result
    (omega arith) c.begins_own_end.ensures c.if-not-begins_own_end.true in
    record { within = omega arith; passed = omega (arith, more, c.loop-len.invariant.passed) }

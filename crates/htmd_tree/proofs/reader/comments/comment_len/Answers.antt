-- What is left to prove of `comment_len`.
use Rattle.std.proofs.Common.{codes, arith}
use Rattle.htmd_lexical.specs.CharacterClasses.{begins_with}
use Rattle.htmd_lexical.proofs.CharacterClassesLemmas.{up_to_more}
use Rattle.htmd_tree.proofs.reader.comments.comment_len.Goals as goal

pub loop-len-preserved : goal.loop-len-preserved
loop-len-preserved c =
    let more = up_to_more (begins_with (codes "-->")) c.args.bytes.now c.loop-len.len c.begins_end.result
    (omega arith) c.begins_end.ensures c.if-not-begins_end.true in
    record { within = omega arith; passed = omega (arith, more, c.loop-len.invariant.passed) }

-- What is left to prove of `comment_len`.
use Rattle.std.proofs.Common.{arith}
use Rattle.htmd_lexical.proofs.CharacterClassesLemmas.{up_to_more}
use Rattle.htmd_html5_tokens.specs.Comments.{ends_comment}
use Rattle.htmd_html5_tokens.proofs.comments.comment_len.Goals as goal

pub loop-len-preserved : goal.loop-len-preserved
loop-len-preserved c =
    let more = up_to_more ends_comment c.args.bytes.now c.loop-len.len c.ends_comment.result (omega arith)
    c.ends_comment.ensures
    c.if-not-ends_comment.true in
    record { within = omega arith; passed = omega (arith, more, c.loop-len.invariant.passed) }

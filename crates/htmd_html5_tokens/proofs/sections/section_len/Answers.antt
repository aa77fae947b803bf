-- What is left to prove of `section_len`.
use Rattle.std.proofs.Common.{arith}
use Rattle.htmd_lexical.proofs.CharacterClassesLemmas.{up_to_more}
use Rattle.htmd_html5_tokens.specs.NextToken.{ends_section}
use Rattle.htmd_html5_tokens.proofs.sections.section_len.Goals as goal

pub loop-len-preserved : goal.loop-len-preserved
loop-len-preserved c =
    let more = up_to_more ends_section c.args.bytes.now c.loop-len.len c.ends_section.result (omega arith)
    c.ends_section.ensures
    c.if-not-ends_section.true in
    record { within = omega arith; passed = omega (arith, more, c.loop-len.invariant.passed) }

-- The script ends, or has one more byte.
use Rattle.std.proofs.Common.{◌∙◌, sym, arith}
use Rattle.htmd_html5_tokens.proofs.RawTextsLemmas.{script_more, script_ends}
use Rattle.htmd_html5_tokens.proofs.raw_texts.script_len.Goals as goal

pub returns-then-ends_script-clause-value : goal.returns-then-ends_script-clause-value
returns-then-ends_script-clause-value c =
    let ends = script_ends c.args.bytes.now c.loop-i.i c.loop-i.escape (omega arith)
    (sym c.ends_script.ensures ∙ c.if-ends_script.true) in
    omega (arith, ends, c.loop-i.invariant)

pub loop-i-preserved : goal.loop-i-preserved
loop-i-preserved c =
    let more = script_more c.args.bytes.now c.loop-i.i c.loop-i.escape (omega arith) c.escape_after-escape.result
    (sym c.ends_script.ensures ∙ c.if-ends_script.false) c.escape_after-escape.ensures in
    omega (arith, more, c.loop-i.invariant)

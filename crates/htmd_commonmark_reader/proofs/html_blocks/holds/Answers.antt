-- It doesn't stand here.
use Rattle.std.proofs.Common.{◌∙◌, sym}
use Rattle.htmd_commonmark_reader.proofs.HtmlBlocksLemmas.{holds_next}
use Rattle.htmd_commonmark_reader.proofs.html_blocks.holds.Goals as goal

pub loop-at-preserved : goal.loop-at-preserved
loop-at-preserved c =
    sym (holds_next c.args.signs.now c.args.text.now c.loop-at.at c.begins_in_any_case.result c.loop-at-test.true
    c.begins_in_any_case.ensures c.if-begins_in_any_case.false)
    ∙ c.loop-at.invariant

-- One more block.
use Rattle.std.proofs.Common.{get_or, sym, ap, ◌∙◌, string_bytes}
use Rattle.htmd_text.specs.Joins.{join_block}
use Rattle.htmd_text.proofs.JoinsLemmas.{joined_more}
use Rattle.htmd_text.proofs.join.join_blocks.Goals as goal

pub loop-block-preserved : goal.loop-block-preserved
loop-block-preserved c =
    let blocks = c.args.blocks.now in
    let i = c.loop-block.block-index in
    let block = c.block-item.result in
    let joined = string_bytes c.loop-block.joined in
    c.in_ok-join_block.ensures
    ∙ ap (join_block joined) c.as_str.ensures.value
    ∙ ap (λ b. join_block joined (string_bytes b)) c.block-item.is
    ∙ ap (λ j. join_block j (string_bytes (get_or blocks i block))) c.loop-block.invariant
    ∙ sym (joined_more (λ b. string_bytes b) blocks i block c.loop-block-test.true)

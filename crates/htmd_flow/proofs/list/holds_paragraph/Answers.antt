use Rattle.std.proofs.Common.{sym, ap, ◌∙◌, ◌||◌, drop, ◌+◌}
use Rattle.htmd_document.specs.DocumentViews.{blocks_of}
use Rattle.htmd_flow.specs.Lists as spec
use Rattle.htmd_flow.proofs.ListsLemmas.{paragraph_at, paragraph_end}
use Rattle.htmd_flow.proofs.list.holds_paragraph.Goals as goal

pub returns-then-is_paragraph : goal.returns-then-is_paragraph
returns-then-is_paragraph c =
    sym (sym c.loop-block.invariant ∙ paragraph_at c.args.blocks.now c.loop-block.block-index c.block-item.result
    c.loop-block-test.true c.block-item.is
    ∙ ap (λ b. b || spec.holds_paragraph (blocks_of (drop (c.loop-block.block-index + 1) c.args.blocks.now)))
    (sym c.is_paragraph.ensures ∙ c.if-is_paragraph.true))

pub loop-block-preserved : goal.loop-block-preserved
loop-block-preserved c =
    sym (paragraph_at c.args.blocks.now c.loop-block.block-index c.block-item.result c.loop-block-test.true
    c.block-item.is
    ∙ ap (λ b. b || spec.holds_paragraph (blocks_of (drop (c.loop-block.block-index + 1) c.args.blocks.now)))
    (sym c.is_paragraph.ensures ∙ c.if-is_paragraph.false))
    ∙ c.loop-block.invariant

pub returns : goal.returns
returns c =
    sym (sym c.loop-block.invariant
    ∙ paragraph_end c.args.blocks.now c.loop-block.block-index c.loop-block-test.false)

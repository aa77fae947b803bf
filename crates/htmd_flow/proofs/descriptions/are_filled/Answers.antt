use Rattle.std.proofs.Common.{◌∙◌, sym}
use Rattle.htmd_flow.specs.DescriptionViews.{is_filled_element}
use Rattle.htmd_document.specs.DocumentViews.{block_of}
use Rattle.htmd_flow.proofs.LoopsLemmas.{any_passed, any_failed, any_done}
use Rattle.htmd_flow.proofs.descriptions.are_filled.Goals as goal

pub returns-then-is_filled_element : goal.returns-then-is_filled_element
returns-then-is_filled_element c =
    any_passed is_filled_element block_of c.args.blocks.now c.loop-block.block-index c.block-item.result _
    c.loop-block-test.true c.block-item.is (sym c.is_filled_element.ensures ∙ c.if-is_filled_element.true)
    c.loop-block.invariant

pub loop-block-preserved : goal.loop-block-preserved
loop-block-preserved c =
    any_failed is_filled_element block_of c.args.blocks.now c.loop-block.block-index c.block-item.result _
    c.loop-block-test.true c.block-item.is (sym c.is_filled_element.ensures ∙ c.if-is_filled_element.false)
    c.loop-block.invariant

pub returns : goal.returns
returns c =
    any_done is_filled_element block_of c.args.blocks.now c.loop-block.block-index _ c.loop-block-test.false
    c.loop-block.invariant

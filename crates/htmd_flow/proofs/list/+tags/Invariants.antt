use Rattle.std.proofs.Common.{◌≡◌, drop}
use Rattle.htmd_document.specs.DocumentViews.{blocks_of}
use Rattle.htmd_flow.specs.ListViews.{are_tags_alone}
use Rattle.htmd_flow.proofs.list.+tags.Given as goal

-- the blocks to come decide
abbrev pub invariant-are_tags_alone-loop-block : goal.invariant-are_tags_alone-loop-block
invariant-are_tags_alone-loop-block l =
    are_tags_alone (blocks_of (drop l.block-index l.blocks)) ≡ are_tags_alone (blocks_of l.blocks)

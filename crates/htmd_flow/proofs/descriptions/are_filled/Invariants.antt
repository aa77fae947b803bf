use Rattle.std.proofs.Common.{◌≡◌, drop, map}
use Rattle.std.specs.List.{list_any}
use Rattle.htmd_flow.specs.DescriptionViews.{is_filled_element}
use Rattle.htmd_document.specs.DocumentViews.{block_of}
use Rattle.htmd_flow.proofs.descriptions.are_filled.Given as goal

abbrev pub invariant-loop-block : goal.invariant-loop-block
invariant-loop-block l =
    list_any is_filled_element (map block_of (drop l.block-index l.blocks))
    ≡ list_any is_filled_element (map block_of l.blocks)

use Rattle.std.proofs.Common.{◌≡◌, drop}
use Rattle.htmd_document.specs.DocumentViews.{blocks_of}
use Rattle.htmd_flow.specs.Lists as spec
use Rattle.htmd_flow.proofs.list.holds_paragraph.Given as goal

abbrev pub invariant-loop-block : goal.invariant-loop-block
invariant-loop-block l =
    spec.holds_paragraph (blocks_of (drop l.block-index l.blocks)) ≡ spec.holds_paragraph (blocks_of l.blocks)

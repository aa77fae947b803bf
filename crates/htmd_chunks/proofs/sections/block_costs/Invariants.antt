use Rattle.std.proofs.Common.{◌≡◌, map, take}
use Rattle.htmd_document.specs.DocumentViews.{block_of}
use Rattle.htmd_chunks.specs.Sections as spec
use Rattle.htmd_chunks.proofs.sections.block_costs.Given as goal

abbrev pub invariant-loop-block : goal.invariant-loop-block
invariant-loop-block l =
    l.costs.items ≡ spec.block_costs l.bounds (map block_of (take l.block-index l.blocks))

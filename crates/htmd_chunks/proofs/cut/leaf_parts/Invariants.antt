use Rattle.std.proofs.Common.{◌≡◌, map}
use Rattle.htmd_document.specs.DocumentViews.{block_of}
use Rattle.htmd_chunks.specs.ChunkViews.{block_part_of}
use Rattle.htmd_chunks.specs.Cuts as spec
use Rattle.htmd_chunks.proofs.cut.leaf_parts.Given as goal

abbrev pub invariant-loop-block : goal.invariant-loop-block
invariant-loop-block l = map block_part_of l.parts.items ≡ spec.leaf_parts l.joint (map block_of l.yielded)

use Rattle.std.proofs.Common.{◌≡◌, ◌++◌, map}
use Rattle.std.specs.Vec.Iter.{into_iter_items}
use Rattle.htmd_document.specs.DocumentViews.{block_of}
use Rattle.htmd_chunks.specs.ChunkViews.{part_of}
use Rattle.htmd_chunks.specs.Sections as spec
use Rattle.htmd_chunks.proofs.pieces.document_parts.Given as goal

abbrev pub invariant-loop-section : goal.invariant-loop-section
invariant-loop-section l =
    spec.document_parts l.bounds (map block_of l.fn.blocks.items)
    ≡ map part_of l.parts.items
    ++ spec.parts_by l.bounds (into_iter_items l.section-iterator) (map block_of (into_iter_items l.rest))

use Rattle.std.proofs.Common.{map}
use Rattle.std.specs.Vec.Iter.{into_iter_items}
use Rattle.htmd_document.specs.DocumentViews.{block_of}
use Rattle.htmd_chunks.specs.ChunkViews.{part_of}
use Rattle.htmd_chunks.specs.Sections as spec
use Rattle.htmd_chunks.proofs.PiecesLemmas.{section_step}
use Rattle.htmd_chunks.proofs.pieces.document_parts.Goals as goal

pub loop-section-preserved : goal.loop-section-preserved
loop-section-preserved c =
    section_step c.args.bounds.now (spec.document_parts c.args.bounds.now (map block_of c.args.blocks.items))
    (map part_of c.loop-section.parts.items) (map part_of c.push_section.new.parts.items) c.in-Some.section
    (into_iter_items c.next.new.self) (into_iter_items c.loop-section.rest) c.in_ok-blocks.blocks.items
    (into_iter_items c.next_blocks.new.rest) (into_iter_items c.loop-section.section-iterator) c.loop-section.invariant
    c.in-Some.ensures.steps.0 c.in_ok-blocks.ensures.taken c.in_ok-blocks.ensures.rest c.in_ok-push_section.ensures

-- With the parts of the blocks that are left, all are written.
use Rattle.std.proofs.Common.{◌≡◌, vec_len}
use Rattle.htmd_commonmark_reader.specs.Places.{place_of}
use Rattle.htmd_commonmark_reader.specs.References.{references_of}
use Rattle.htmd_commonmark_reader.proofs.PlacesLemmas.{all_from}
use Rattle.htmd_commonmark_reader.proofs.block_parts.block_parts.Given as goal
use Rattle.htmd_parts.specs.PartViews.{all_parts_of}

abbrev pub invariant-loop-block : goal.invariant-loop-block
invariant-loop-block l =
    all_from (references_of l.references) (place_of l.place) l.blocks.items (all_parts_of l.parts.items)
    ≡ all_from (references_of l.references) (place_of l.initial.place) l.initial.blocks.items
    (all_parts_of l.initial.parts.items)

abbrev pub decreases-loop-block : goal.decreases-loop-block
decreases-loop-block l = vec_len l.blocks

use Rattle.std.proofs.Common.{◌≡◌, ◌++◌, [], map}
use Rattle.std.specs.Vec.Iter.{into_iter_items}
use Rattle.htmd_chunks.specs.ChunkViews.{heading_of, part_of, piece_of}
use Rattle.htmd_chunks.specs.Pieces as spec
use Rattle.htmd_chunks.proofs.pieces.pieces_of.Given as goal

abbrev pub invariant-loop-part : goal.invariant-loop-part
invariant-loop-part l =
    spec.pieces_from [] 0 (map part_of l.fn.parts.items)
    ≡ map piece_of l.pieces.items
    ++ spec.pieces_from (map heading_of l.path.items) l.next (map part_of (into_iter_items l.part-iterator))

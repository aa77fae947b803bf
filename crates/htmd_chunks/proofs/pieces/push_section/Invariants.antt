use Rattle.std.proofs.Common.{◌≡◌, ◌++◌, map}
use Rattle.htmd_chunks.specs.ChunkViews.{part_of}
use Rattle.htmd_chunks.proofs.pieces.push_section.Given as goal

abbrev pub invariant-loop-part : goal.invariant-loop-part
invariant-loop-part l =
    map part_of l.parts.items ≡ map part_of l.initial.parts.items ++ map part_of l.yielded

use Rattle.std.proofs.Common.{◌≡◌, map}
use Rattle.htmd_chunks.specs.ChunkViews.{block_part_of, part_of}
use Rattle.htmd_chunks.specs.Cuts as spec
use Rattle.htmd_chunks.proofs.cut.quote_parts.Given as goal

abbrev pub invariant-loop-part : goal.invariant-loop-part
invariant-loop-part l = map block_part_of l.parts.items ≡ spec.quote_parts (map part_of l.yielded)

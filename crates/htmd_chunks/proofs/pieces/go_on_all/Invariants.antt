use Rattle.std.proofs.Common.{◌≡◌, map, drop}
use Rattle.htmd_document.specs.DocumentViews.{block_of}
use Rattle.htmd_chunks.specs.ChunkViews.{heading_of}
use Rattle.htmd_chunks.specs.Pieces as spec
use Rattle.htmd_chunks.proofs.pieces.go_on_all.Given as goal

abbrev pub invariant-loop-block : goal.invariant-loop-block
invariant-loop-block l =
    spec.path_behind_all (map heading_of l.initial.path.items) (map block_of l.blocks)
    ≡ spec.path_behind_all (map heading_of l.path.items) (map block_of (drop l.block-index l.blocks))

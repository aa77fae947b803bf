use Rattle.std.proofs.Common.{◌≡◌, map, take}
use Rattle.std.specs.Prelude.{filter, string_bytes}
use Rattle.htmd_chunks.specs.ChunkViews.{heading_of}
use Rattle.htmd_chunks.specs.Pieces as spec
use Rattle.htmd_chunks.proofs.pieces.texts_above.Given as goal

abbrev pub invariant-loop-heading : goal.invariant-loop-heading
invariant-loop-heading l =
    map string_bytes l.texts.items
    ≡ map (λ (h : spec.Heading). h.text)
    (filter (spec.is_under l.level) (map heading_of (take l.heading-index l.path)))

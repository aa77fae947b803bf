-- The law of joined pieces.
use Rattle.std.proofs.Common.{◌≡◌, true, false, [], ap, ◌∙◌}
use Rattle.std.specs.Prelude.{nat_le}
use Rattle.htmd_document.specs.Documents.{no_blocks, blocks_of}
use Rattle.htmd_document.specs.DocumentLimits.{most_nested}
use Rattle.htmd_document.specs.NormalDocuments.{are_normal_blocks, depth_among}
use Rattle.htmd_chunks.specs.ChunkLaws.{PiecesJoin}
use Rattle.htmd_chunks.specs.Pieces.{listed, piece_options}
use Rattle.htmd_chunks.specs.Sections.{document_parts}
use Rattle.htmd_chunks.specs.declared.bounds.Bounds.{Bounds}
use Rattle.htmd_chunks.proofs.JoinsLemmas.{blocks_of-listed, pieces-joined}
use Rattle.htmd_chunks.proofs.RunsLemmas.{and_left}
use Rattle.htmd_chunks.proofs.SectionsLemmas.{document-joined}

pub pieces_join : PiecesJoin
pieces_join options most document normal =
    let bounds : Bounds = record { most = most; options = piece_options options } in
    let blocks : are_normal_blocks false document ≡ true =
    and_left (are_normal_blocks false document) (nat_le (depth_among document) most_nested) normal in
    let same = blocks_of-listed document in
    let inside : are_normal_blocks false (blocks_of (listed document)) ≡ true =
    ap (are_normal_blocks false) same ∙ blocks in
    pieces-joined no_blocks [] 0 (document_parts bounds (listed document))
    ∙ document-joined bounds (listed document) inside
    ∙ same

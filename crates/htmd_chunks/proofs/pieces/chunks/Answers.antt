use Rattle.std.proofs.Common.{◌∙◌, sym, ap, map, []}
use Rattle.htmd_document.specs.DocumentViews.{block_of, document_of}
use Rattle.htmd_chunks.specs.ChunkViews.{piece_of}
use Rattle.htmd_chunks.specs.Pieces as spec
use Rattle.htmd_chunks.specs.Sections.{document_parts}
use Rattle.htmd_chunks.proofs.LeastLemmas.{if_ok_as}
use Rattle.htmd_chunks.proofs.PiecesLemmas.{listed-of}
use Rattle.htmd_chunks.proofs.pieces.chunks.Goals as goal

pub returns : goal.returns
returns c =
    let blocks = map block_of c.args.document.blocks.items in
    if_ok_as (λ pieces. map piece_of pieces.items) c.pieces_of.result _
    (spec.chunks_of c.args.options.now c.args.most (document_of c.args.document)) c.pieces_of.ensures
    (ap (spec.pieces_from [] 0) (c.in_ok-parts.ensures
    ∙ ap (λ o. document_parts (record { most = c.args.most; options = o }) blocks) c.piece_options.ensures
    ∙ ap (document_parts (record { most = c.args.most; options = spec.piece_options c.args.options.now }))
    (sym (listed-of blocks))))

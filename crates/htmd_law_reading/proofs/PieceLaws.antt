-- The laws of pieces: they are normal, and so they are read back.
use Rattle.std.proofs.Common.{refl, get_or}
use Rattle.htmd_document_of_tree.specs.TreeDocuments.{document_of_tree}
use Rattle.htmd_chunks.specs.Pieces.{Piece, piece_options, chunks_of}
use Rattle.htmd_chunks.proofs.NormalPiecesLemmas.{pieces_are_normal}
use Rattle.htmd_law_documents.proofs.NormalMain.{documents_are_normal}
use Rattle.htmd_law_reading.specs.PieceLaws.{PiecesReadBack, PagePiecesReadBack}
use Rattle.htmd_law_reading.proofs.NoDefinitions.{inline-few}
use Rattle.htmd_law_reading.proofs.ReadingMain.{reads_back}

pub pieces_read_back : PiecesReadBack
pieces_read_back options most d normal k other within =
    let p : Piece = get_or (chunks_of options most d) k other in
    reads_back (piece_options options) p.blocks (pieces_are_normal options most d normal k other within).0
    (inline-few (piece_options options) refl p.blocks)

pub page_pieces_read_back : PagePiecesReadBack
page_pieces_read_back which sight tree options most text =
    pieces_read_back options most (document_of_tree which sight tree) (documents_are_normal which sight tree text)

-- What a reader of CommonMark sees of the Markdown of a piece of a document is the piece.
use Rattle.std.specs.Prelude.{◌≡◌, ℕ, true, Some, All}
use Rattle.htmd_nodes.specs.NumberedTrees.{NumberedTree}
use Rattle.htmd_document.specs.Documents.{Blocks}
use Rattle.htmd_document.specs.NormalDocuments.{IsNormal}
use Rattle.htmd_shown.specs.Shown.{Sight}
use Rattle.htmd_document_of_tree.specs.declared.anchors.Anchors.{Anchors}
use Rattle.htmd_document_of_tree.specs.TreeDocuments.{document_of_tree}
use Rattle.htmd_law_documents.specs.TreeForms.{is_text_tree}
use Rattle.htmd_commonmark.specs.declared.options.DocumentOptions.{DocumentOptions}
use Rattle.htmd_commonmark.specs.DocumentMarkdown.{markdown_of}
use Rattle.htmd_commonmark_reading.specs.Reading.{document}
use Rattle.htmd_chunks.specs.Pieces.{Piece, piece_options, chunks_of}

-- what is read of the piece's Markdown, in which links are inline, is the piece
abbrev pub IsReadBack : DocumentOptions → Piece → Type 0
IsReadBack options p = document (markdown_of (piece_options options) p.blocks) ≡ Some p.blocks

-- So is each piece of a normal document, for all options and sizes.
abbrev pub PiecesReadBack : Type 0
PiecesReadBack = (options : DocumentOptions) (most : ℕ) (d : Blocks) → IsNormal d
    → All (IsReadBack options) (chunks_of options most d)

-- And so is each piece of a page, with whatever anchors.
abbrev pub PagePiecesReadBack : Type 0
PagePiecesReadBack = (which : Anchors) (sight : Sight) (tree : NumberedTree) (options : DocumentOptions) (most : ℕ)
    → is_text_tree tree ≡ true
    → All (IsReadBack options) (chunks_of options most (document_of_tree which sight tree))

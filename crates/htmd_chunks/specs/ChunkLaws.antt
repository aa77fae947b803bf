-- Laws of pieces.
use Rattle.std.specs.Prelude.{◌≡◌, ℕ, true, All}
use Rattle.htmd_document.specs.Documents.{Blocks}
use Rattle.htmd_document.specs.NormalDocuments.{IsNormal}
use Rattle.htmd_document.specs.TightItems.{is_filled}
use Rattle.htmd_commonmark.specs.declared.options.DocumentOptions.{DocumentOptions}
use Rattle.htmd_chunks.specs.Joins.{joined}
use Rattle.htmd_chunks.specs.Pieces.{Piece, chunks_of}

-- joined in order, the pieces of a normal document are the document
abbrev pub PiecesJoin : Type 0
PiecesJoin = (options : DocumentOptions) (most : ℕ) (document : Blocks)
    → IsNormal document → joined (chunks_of options most document) ≡ document

-- each of them is a normal document, and none is empty
abbrev pub PiecesAreNormal : Type 0
PiecesAreNormal = (options : DocumentOptions) (most : ℕ) (document : Blocks) → IsNormal document
    → All (λ (p : Piece). IsNormal p.blocks × (is_filled p.blocks ≡ true)) (chunks_of options most document)

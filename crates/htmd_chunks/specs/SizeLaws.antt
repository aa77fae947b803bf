-- Laws of sizes: they add up as texts are put together.
use Rattle.std.specs.Prelude.{◌≡◌, ◌≤◌, ◌⊎◌, ℕ, ◌+◌, true, false, All, List, ◌∷◌, ◌++◌, length, codes}
use Rattle.htmd_lexical.specs.Characters.{line_feed}
use Rattle.htmd_text.specs.Trims.{is_line_feed}
use Rattle.htmd_document.specs.Documents.{Blocks}
use Rattle.htmd_document.specs.NormalDocuments.{IsNormal}
use Rattle.htmd_commonmark.specs.DocumentMarkdown.{markdown_of}
use Rattle.htmd_commonmark.specs.declared.options.DocumentOptions.{DocumentOptions}
use Rattle.htmd_commonmark.specs.Pages.{IsMarker, quoted, indented}
use Rattle.htmd_chunks.specs.Measures.{blocks_size}
use Rattle.htmd_chunks.specs.Pieces.{Piece, piece_options, chunks_of}
use Rattle.htmd_chunks.specs.ShortPieces.{may_be_longer}
use Rattle.htmd_chunks.specs.Sizes.{plus, text_size, gap_size, quoted_size, indented_size}

-- a text in the next line
abbrev pub SizeBehind : Type 0
SizeBehind = (s t : List ℕ) → text_size (s ++ line_feed ∷ t)
    ≡ plus (plus (text_size s) (gap_size true)) (text_size t)

-- behind a blank line
abbrev pub SizeApart : Type 0
SizeApart = (s t : List ℕ)
    → text_size (s ++ codes "\n\n" ++ t) ≡ plus (plus (text_size s) (gap_size false)) (text_size t)

-- a quote
abbrev pub SizeQuoted : Type 0
SizeQuoted = (s : List ℕ) → text_size (quoted s) ≡ quoted_size (text_size s)

-- an item with something in its first line
abbrev pub SizeIndented : Type 0
SizeIndented = (marker : List ℕ) (spaces b : ℕ) (s : List ℕ) → IsMarker marker → is_line_feed b ≡ false
    → text_size (indented marker spaces (b ∷ s)) ≡ indented_size (length marker + spaces) (text_size (b ∷ s))

-- the Markdown of a normal document has no more bytes than its blocks take; links are inline
abbrev pub DocumentsFit : Type 0
DocumentsFit = (options : DocumentOptions) (document : Blocks) → IsNormal document
    → length (markdown_of (piece_options options) document)
    ≤ (blocks_size (piece_options options) false document).bytes

-- a piece of a normal document has no more bytes of Markdown than asked, or is one that may be longer
abbrev pub PiecesAreShort : Type 0
PiecesAreShort = (options : DocumentOptions) (most : ℕ) (document : Blocks) → IsNormal document
    → All (λ (p : Piece).
    (length (markdown_of (piece_options options) p.blocks) ≤ most) ⊎ (may_be_longer p.blocks ≡ true))
    (chunks_of options most document)

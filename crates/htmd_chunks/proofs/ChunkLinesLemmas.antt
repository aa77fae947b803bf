-- Lines of pieces, one after the other.
use Rattle.std.proofs.Common.{◌≡◌, ℕ, ◌+◌, ◌<◌, List, ◌∷◌, ◌++◌, length, map, drop}
use Rattle.std.proofs.Common.{get_or, sym, ap, ◌∙◌, append_assoc}
use Rattle.std.proofs.lemmas.List.{drop_more}
use Rattle.htmd_commonmark.specs.declared.options.DocumentOptions.{DocumentOptions}
use Rattle.htmd_chunks.specs.ChunkLines.{line, lines_from}
use Rattle.htmd_chunks.specs.ChunkViews.{piece_of}
use Rattle.htmd_chunks.specs.declared.pieces.Piece.{Piece}

pub line_more : (options : DocumentOptions) (begin : List ℕ) (pieces : List Piece) (n : ℕ) (p : Piece)
    (whole old new : List ℕ) → n < length pieces → p ≡ get_or pieces n p
    → whole ≡ old ++ lines_from options begin n (map piece_of (drop n pieces))
    → new ≡ old ++ line options begin n (piece_of p)
    → whole ≡ new ++ lines_from options begin (n + 1) (map piece_of (drop (n + 1) pieces))
line_more options begin pieces n p whole old new within is so_far more =
    let rest = drop (n + 1) pieces in
    let later = lines_from options begin (n + 1) (map piece_of rest) in
    let left : drop n pieces ≡ p ∷ rest = drop_more pieces n p within ∙ ap (λ q. q ∷ rest) (sym is) in
    so_far
    ∙ ap (λ ps. old ++ lines_from options begin n (map piece_of ps)) left
    ∙ sym (append_assoc old (line options begin n (piece_of p)) later)
    ∙ ap (λ s. s ++ later) (sym more)

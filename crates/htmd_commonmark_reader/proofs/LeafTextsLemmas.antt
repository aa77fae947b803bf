-- The texts of leaves, line by line.
use Rattle.std.proofs.Common.{◌≡◌, ℕ, zero, suc, false, List, [], ◌∷◌, ◌++◌, refl, ap, sym, ◌∙◌}
use Rattle.std.proofs.Common.{append_assoc, replicate}
use Rattle.std.proofs.lemmas.List.{append-nil}
use Rattle.htmd_commonmark_reading.specs.Lines.{spaces}
use Rattle.htmd_commonmark_reading.specs.Boxes.{joined_lines}
use Rattle.htmd_commonmark_reader.specs.LeafTexts.{line_break}

spaces_before : (n : ℕ) (s : List ℕ) → replicate n 32 ++ s ≡ spaces n s
spaces_before zero s = refl
spaces_before (suc n) s = ap (λ (t : List ℕ). 32 ∷ t) (spaces_before n s)

pub line_pushed : (before broken spaced after gap s : List ℕ) (n : ℕ) → broken ≡ before ++ gap
    → spaced ≡ broken ++ replicate n 32 → after ≡ spaced ++ s
    → after ≡ before ++ (gap ++ spaces n s)
line_pushed before broken spaced after gap s n e f g =
    g ∙ ap (λ t. t ++ s) f ∙ append_assoc broken (replicate n 32) s
    ∙ ap (λ t. broken ++ t) (spaces_before n s) ∙ ap (λ t. t ++ spaces n s) e
    ∙ append_assoc before gap (spaces n s)

-- one more line after others
pub joined_more : (l : List ℕ) (ls : List (List ℕ)) (s : List ℕ)
    → joined_lines (l ∷ ls) ++ (line_break false ++ s) ≡ joined_lines ((l ∷ ls) ++ s ∷ [])
joined_more l [] s =
    let alone : joined_lines (l ∷ []) ≡ l = append-nil l in
    let last : joined_lines (s ∷ []) ≡ s = append-nil s in
    ap (λ t. t ++ (10 ∷ s)) alone ∙ ap (λ (t : List ℕ). l ++ (10 ∷ t)) (sym last)
joined_more l (m ∷ ls) s =
    append_assoc l (10 ∷ joined_lines (m ∷ ls)) (10 ∷ s)
    ∙ ap (λ (t : List ℕ). l ++ (10 ∷ t)) (joined_more m ls s)

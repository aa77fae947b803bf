-- Lines without CR, and their ends.
use Rattle.std.proofs.Common.{◌≡◌, ◌≢◌, ℕ, suc, ◌+◌, ◌<◌, false, List, []}
use Rattle.std.proofs.Common.{◌∷◌, ◌++◌, length, get_or, refl, ap, sym}
use Rattle.std.proofs.Common.{◌∙◌, arith, append_assoc, drop, subst}
use Rattle.std.proofs.lemmas.List.{length-append}
use Rattle.std.proofs.lemmas.List.Prefix.{front_reads, front_rest, front_fits}
use Rattle.std.proofs.lemmas.Str.{IsUtf8-drop, IsCharBoundary-after_ascii}
use Rattle.std.specs.Str.{IsUtf8}
use Rattle.std.proofs.lemmas.Bool.Decides.{nat_tests}
use Rattle.std.specs.Prelude.{◌==◌}
use Rattle.htmd_lexical.specs.LineEnds.{normalized}

abbrev pub HasNoReturn : List ℕ → Type 0
HasNoReturn s = (i : ℕ) → i < length s → get_or s i 0 ≢ 13

other : (b : ℕ) → b ≢ 13 → (b == 13) ≡ false
other b h = grind (arith, nat_tests)

behind_first : (b : ℕ) (s : List ℕ) → HasNoReturn (b ∷ s) → HasNoReturn s
behind_first b s h i l = h (suc i) (omega arith)

pub normalized-append : (s t : List ℕ) → HasNoReturn s → normalized (s ++ t) ≡ s ++ normalized t
normalized-append [] t h = refl
normalized-append (b ∷ s) t h =
    let q = other b (h 0 (omega arith)) in
    rw q (ap (λ x. b ∷ x) (normalized-append s t (behind_first b s h)))

pub normalized_same : (s : List ℕ) → HasNoReturn s → normalized s ≡ s
normalized_same [] h = refl
normalized_same (b ∷ s) h =
    let q = other b (h 0 (omega arith)) in
    rw q (ap (λ x. b ∷ x) (normalized_same s (behind_first b s h)))

-- one more line
pub line_more : (lines line ended rest behind text : List ℕ) → lines ++ normalized rest ≡ normalized text
    → rest ≡ line ++ (13 ∷ behind) → HasNoReturn line
    → ended ++ normalized behind ≡ (lines ++ line) ++ normalized (13 ∷ behind)
    → ended ++ normalized behind ≡ normalized text
line_more lines line ended rest behind text i e h d =
    d ∙ append_assoc lines line (normalized (13 ∷ behind))
    ∙ ap (λ x. lines ++ x) (sym (normalized-append line (13 ∷ behind) h) ∙ ap normalized (sym e)) ∙ i

pub behind_return : (rest line behind : List ℕ) → IsUtf8 rest → rest ≡ line ++ (13 ∷ behind) → IsUtf8 behind
behind_return rest line behind u e =
    let size = length-append line (13 ∷ []) in
    let all : rest ≡ (line ++ 13 ∷ []) ++ behind = e ∙ sym (append_assoc line (13 ∷ []) behind) in
    let at : get_or rest (length line) 0 ≡ 13 =
    front_reads 0 rest (line ++ 13 ∷ []) behind all (length line) (omega arith) ∙ get_or-push line 13 in
    let within : length line < length rest = omega (arith, front_fits rest (line ++ 13 ∷ []) behind all) in
    let cut = IsCharBoundary-after_ascii rest (length line) u within (omega arith) in
    let k : length line + 1 ≡ length (line ++ 13 ∷ []) = omega arith in
    subst IsUtf8 (ap (λ n. drop n rest) k ∙ front_rest rest (line ++ 13 ∷ []) behind all)
    (IsUtf8-drop rest (length line + 1) u cut)
  where
    get_or-push : (l : List ℕ) (b : ℕ) → get_or (l ++ b ∷ []) (length l) 0 ≡ b
    get_or-push [] b = refl
    get_or-push (c ∷ l) b = get_or-push l b

-- The final line feed of a content.
use Rattle.std.proofs.Common.{◌≡◌, ◌≢◌, ◌⊎◌, inl, inr, ℕ, suc, ◌-◌, ◌<◌, Bool, true, false, List, [], ◌∷◌, ◌++◌, length}
use Rattle.std.proofs.Common.{take, refl, sym, ap, ◌∙◌, arith}
use Rattle.std.specs.Prelude.{◌==◌, slice_index, Option, None, Some, MatchOption}
use Rattle.std.specs.Option.{unwrap_or}
use Rattle.std.proofs.lemmas.Bool.Decides.{nat_tests}
use Rattle.std.proofs.lemmas.List.{length_push}
use Rattle.std.proofs.Math.Seq.{get_or-append_seam, take-append_seam}
use Rattle.htmd_lexical.specs.Characters.{line_feed}
use Rattle.htmd_markdown.specs.CodeBlocks.{code_of}
use denote.Ref.{Bor}

code_of-push : (s : List ℕ) → code_of (s ++ line_feed ∷ []) ≡ s
code_of-push s =
    let size : length (s ++ line_feed ∷ []) - 1 ≡ length s = omega (arith, length_push s line_feed) in
    let last : slice_index (s ++ line_feed ∷ []) (length (s ++ line_feed ∷ []) - 1) ≡ line_feed =
    ap (λ k. slice_index (s ++ line_feed ∷ []) k) size ∙ get_or-append_seam s line_feed [] 0 in
    rw (ap (λ b. b == line_feed) last)
    (ap (λ k. take k (s ++ line_feed ∷ [])) size ∙ take-append_seam s (line_feed ∷ []))

-- the last character after the others
ends_apart : (s : List ℕ) → 0 < length s → s ≡ take (length s - 1) s ++ slice_index s (length s - 1) ∷ []
ends_apart [] some = absurd (omega arith)
ends_apart (b ∷ []) some = refl
ends_apart (b ∷ c ∷ s) some =
    let place : suc (length (c ∷ s) - 1) ≡ length (b ∷ c ∷ s) - 1 = omega arith in
    ap (λ l. b ∷ l) (ends_apart (c ∷ s) (omega arith))
    ∙ ap (λ k. take k (b ∷ c ∷ s) ++ slice_index (b ∷ c ∷ s) k ∷ []) place

ends_in_line_feed : (s : List ℕ) → slice_index s (length s - 1) ≡ line_feed
    → s ≡ take (length s - 1) s ++ line_feed ∷ []
ends_in_line_feed [] e = cc
ends_in_line_feed (b ∷ s) e =
    ends_apart (b ∷ s) (omega arith) ∙ ap (λ x. take (length (b ∷ s) - 1) (b ∷ s) ++ x ∷ []) e

code_of-kept : (s : List ℕ) → ((front : List ℕ) → s ≢ front ++ line_feed ∷ []) → code_of s ≡ s
code_of-kept s other = by_case (slice_index s (length s - 1) == line_feed) refl
  where
    by_case : (t : Bool) → (slice_index s (length s - 1) == line_feed) ≡ t → code_of s ≡ s
    by_case true here = absurd (other (take (length s - 1) s) (ends_in_line_feed s (grind (arith, nat_tests))))
    by_case false here = rw here refl

-- what is left where a line feed was stripped, or nothing was
pub code_of-stripped : (s : List ℕ) (r : Option (Bor (List ℕ))) (whole : Bor (List ℕ)) → whole.now ≡ s
    → MatchOption r ((front : List ℕ) → s ≢ front ++ line_feed ∷ []) (λ x. s ≡ x.now ++ line_feed ∷ [])
    → (unwrap_or r whole).now ≡ code_of s
code_of-stripped s None whole same kept = same ∙ sym (code_of-kept s kept)
code_of-stripped s (Some x) whole same stripped = sym (ap code_of stripped ∙ code_of-push x.now)

-- the content is its code, and a line feed or nothing after it
pub code_of-behind : (s : List ℕ) → (s ≡ code_of s) ⊎ (s ≡ code_of s ++ line_feed ∷ [])
code_of-behind s = by_case (slice_index s (length s - 1) == line_feed) refl
  where
    by_case : (t : Bool) → (slice_index s (length s - 1) == line_feed) ≡ t → (s ≡ code_of s)
        ⊎ (s ≡ code_of s ++ line_feed ∷ [])
    by_case true here = rw here (inr (ends_in_line_feed s (grind (arith, nat_tests))))
    by_case false here = rw here (inl refl)

-- Lines and columns, one byte further.
use Rattle.std.proofs.Common.{◌≡◌, ℕ, zero, suc, ◌+◌, ◌<◌, ◌≤◌, Bool, true, false, List, [], ◌∷◌, ◌++◌, length, drop}
use Rattle.std.proofs.Common.{get_or, refl, sym, ◌∙◌, ap, arith, min, add-zero}
use Rattle.std.specs.List.{sum_by}
use Rattle.std.specs.Prelude.{◌||◌, nat_le, nat_lt, if◌then◌else◌}
use Rattle.std.proofs.lemmas.Bool.Decides.{nat_tests}
use Rattle.std.proofs.lemmas.List.Sums.{sum_by-append}
use Rattle.std.proofs.Math.Bool.{or-true}
use Rattle.htmd_lexical.proofs.Cases.{test}
use Rattle.htmd_tree.specs.Lines.{ends_line, lines_ended, line_front, begins_character, characters}

pub line_ends : (n : ℕ) (s : List ℕ) → n < length s → ends_line (drop n s) ≡ true
    → lines_ended (suc n) s ≡ lines_ended n s + 1
line_ends n [] l e = absurd (omega arith)
line_ends zero (b ∷ s) l e = rw e refl
line_ends (suc n) (b ∷ s) l e = let i = line_ends n s (omega arith) e in omega arith

pub line_goes_on : (n : ℕ) (s : List ℕ) → n < length s → ends_line (drop n s) ≡ false
    → lines_ended (suc n) s ≡ lines_ended n s
line_goes_on n [] l e = absurd (omega arith)
line_goes_on zero (b ∷ s) l e = rw e refl
line_goes_on (suc n) (b ∷ s) l e = let i = line_goes_on n s (omega arith) e in omega arith

above_none : (n m : ℕ) → n ≡ m + 1 → nat_lt 0 n ≡ true
above_none n m e = grind (arith, nat_tests)

pub front_ends : (n : ℕ) (s : List ℕ) → n < length s → ends_line (drop n s) ≡ true
    → line_front (suc n) s ≡ []
front_ends n [] l e = absurd (omega arith)
front_ends zero (b ∷ s) l e = rw e refl
front_ends (suc n) (b ∷ s) l e =
    let more = above_none (lines_ended (suc n) s) (lines_ended n s) (line_ends n s (omega arith) e) in
    rw (more, or-true (ends_line (b ∷ s))) (front_ends n s (omega arith) e)

choice_grows : (c : Bool) (b x : ℕ) (s t : List ℕ) → s ≡ t ++ (x ∷ [])
    → (if c then s else b ∷ s) ≡ (if c then t else b ∷ t) ++ (x ∷ [])
choice_grows true b x s t e = e
choice_grows false b x s t e = ap (λ (y : List ℕ). b ∷ y) e

pub front_grows : (n : ℕ) (s : List ℕ) → n < length s → ends_line (drop n s) ≡ false
    → line_front (suc n) s ≡ line_front n s ++ (get_or s n 0 ∷ [])
front_grows n [] l e = absurd (omega arith)
front_grows zero (b ∷ s) l e = rw e refl
front_grows (suc n) (b ∷ s) l e =
    rw (line_goes_on n s (omega arith) e)
    (choice_grows (ends_line (b ∷ s) || nat_lt 0 (lines_ended n s)) b (get_or s n 0) (line_front (suc n) s)
    (line_front n s)
    (front_grows n s (omega arith) e))

abbrev starts_at : ℕ → ℕ
starts_at b = if begins_character b then 1 else 0

pub one_character : (s : List ℕ) (b : ℕ) → begins_character b ≡ true
    → characters (s ++ (b ∷ [])) ≡ characters s + 1
one_character s b e =
    sum_by-append starts_at s (b ∷ []) ∙ ap (λ (x : Bool). sum_by starts_at s + (0 + (if x then 1 else 0))) e

pub no_character : (s : List ℕ) (b : ℕ) → begins_character b ≡ false
    → characters (s ++ (b ∷ [])) ≡ characters s
no_character s b e =
    sum_by-append starts_at s (b ∷ []) ∙ (ap (λ (x : Bool). sum_by starts_at s + (0 + (if x then 1 else 0))) e
    ∙ add-zero (sum_by starts_at s))

-- a place after the end counts as the end
lines_beyond : (n : ℕ) (s : List ℕ) → length s ≤ n → lines_ended n s ≡ lines_ended (length s) s
lines_beyond zero [] l = refl
lines_beyond zero (b ∷ s) l = absurd (omega arith)
lines_beyond (suc n) [] l = refl
lines_beyond (suc n) (b ∷ s) l = rw (lines_beyond n s (omega arith)) refl

front_beyond : (n : ℕ) (s : List ℕ) → length s ≤ n → line_front n s ≡ line_front (length s) s
front_beyond zero [] l = refl
front_beyond zero (b ∷ s) l = absurd (omega arith)
front_beyond (suc n) [] l = refl
front_beyond (suc n) (b ∷ s) l = rw (lines_beyond n s (omega arith), front_beyond n s (omega arith)) refl

either_end : {P : Type 0} (n m k : ℕ) → m ≡ min n k → (m ≡ n → P) → (k ≤ n → m ≡ k → P) → P
either_end n m k e f g =
    test (nat_le n k) (λ q. f (grind (arith, nat_tests)))
    (λ q. g (grind (arith, nat_tests)) (grind (arith, nat_tests)))

pub lines_capped : (n m : ℕ) (s : List ℕ) → m ≡ min n (length s) → lines_ended m s ≡ lines_ended n s
lines_capped n m s e =
    either_end n m (length s) e (λ q. ap (λ k. lines_ended k s) q)
    (λ l q. ap (λ k. lines_ended k s) q ∙ sym (lines_beyond n s l))

pub front_capped : (n m : ℕ) (s : List ℕ) → m ≡ min n (length s) → line_front m s ≡ line_front n s
front_capped n m s e =
    either_end n m (length s) e (λ q. ap (λ k. line_front k s) q)
    (λ l q. ap (λ k. line_front k s) q ∙ sym (front_beyond n s l))

-- a loop that stands at the end of what is counted
pub lines_counted : (n m at : ℕ) (s html : List ℕ) → m ≡ min n (length s) → at ≡ m → s ≡ html
    → lines_ended at s ≡ lines_ended n html
lines_counted n m at s html e q t = ap (λ k. lines_ended k s) q ∙ (lines_capped n m s e ∙ ap (lines_ended n) t)

pub front_counted : (n m at : ℕ) (s html : List ℕ) → m ≡ min n (length s) → at ≡ m → s ≡ html
    → line_front at s ≡ line_front n html
front_counted n m at s html e q t = ap (λ k. line_front k s) q ∙ (front_capped n m s e ∙ ap (line_front n) t)

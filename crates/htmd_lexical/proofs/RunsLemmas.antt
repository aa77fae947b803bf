-- The longest beginning of a text that passes a test, by its length, and where a text may be cut after it.
use Rattle.std.proofs.Common.{◌≡◌, ℕ, zero, suc, ◌+◌, ◌<◌, ◌≤◌, Bool, true, false, List, [], ◌∷◌, length, take}
use Rattle.std.proofs.Common.{drop, get_or, refl, subst, arith}
use Rattle.std.proofs.lemmas.List.{drop_more}
use Rattle.std.proofs.lemmas.Str.{IsCharBoundary-start, lead_after_ascii}
use Rattle.std.specs.Str.{IsUtf8, IsCharBoundary}
use Rattle.htmd_lexical.specs.CharacterClasses.{leading_run, behind_run}
use Rattle.htmd_lexical.proofs.Cases.{test}

-- one more character of the run
pub run_more : (p : ℕ → Bool) (s : List ℕ) (i : ℕ) → i < length s → p (get_or s i 0) ≡ true
    → length (leading_run p (drop i s)) ≡ length (leading_run p (drop (i + 1) s)) + 1
run_more p s i l e = rw (drop_more s i 0 l, e) (omega arith)

-- the run ends
pub run_stops : (p : ℕ → Bool) (s : List ℕ) (i : ℕ) → i < length s → p (get_or s i 0) ≡ false
    → length (leading_run p (drop i s)) ≡ 0
run_stops p s i l e = rw (drop_more s i 0 l, e) refl

pub take_run : (p : ℕ → Bool) (s : List ℕ) → take (length (leading_run p s)) s ≡ leading_run p s
take_run p [] = refl
take_run p (b ∷ s) = test (p b) (λ e. rw (e, take_run p s) refl) (λ e. rw e refl)

pub drop_run : (p : ℕ → Bool) (s : List ℕ) → drop (length (leading_run p s)) s ≡ behind_run p s
drop_run p [] = refl
drop_run p (b ∷ s) = test (p b) (λ e. rw (e, drop_run p s) refl) (λ e. rw e refl)

pub run_within : (p : ℕ → Bool) (s : List ℕ) → length (leading_run p s) ≤ length s
run_within p [] = omega arith
run_within p (b ∷ s) =
    test (p b) (λ e. let h = run_within p s in rw e (omega arith)) (λ e. rw e (omega arith))

pub behind_within : (p : ℕ → Bool) (s : List ℕ) → length (behind_run p s) ≤ length s
behind_within p [] = omega arith
behind_within p (b ∷ s) =
    test (p b) (λ e. let k = behind_within p s in rw e (omega arith)) (λ e. rw e (omega arith))

-- what follows a run
pub stop_at : (p : ℕ → Bool) (s : List ℕ) → length (leading_run p s) < length s
    → p (get_or s (length (leading_run p s)) 0) ≡ false
stop_at p [] l = absurd (omega arith)
stop_at p (b ∷ s) l =
    test (p b) (λ e. let k = rw e at l in rw e (stop_at p s (omega arith))) (λ e. rw e e)

-- the last character of a run
pub last_of : (p : ℕ → Bool) (s : List ℕ) (n : ℕ) → length (leading_run p s) ≡ suc n
    → p (get_or s n 0) ≡ true
last_of p [] n q = absurd (omega arith)
last_of p (b ∷ s) zero q = test (p b) (λ e. e) (λ e. let k = rw e at q in absurd (omega arith))
last_of p (b ∷ s) (suc n) q =
    test (p b) (λ e. let k = rw e at q in last_of p s n (omega arith))
    (λ e. let k = rw e at q in absurd (omega arith))

-- a text may be cut after a run of ASCII characters
pub behind_last : (p : ℕ → Bool) (s : List ℕ) (n : ℕ) → IsUtf8 s → ((b : ℕ) → p b ≡ true → b < 128)
    → length (leading_run p s) ≡ n → IsCharBoundary s n
behind_last p s zero u h q = IsCharBoundary-start s u
behind_last p s (suc n) u h q =
    let w = run_within p s in
    let a : get_or s n 0 < 128 = h (get_or s n 0) (last_of p s n q) in
    let k : n + 1 ≡ suc n = omega arith in
    let m : suc n < length s → 128 ≤ get_or s (suc n) 0 → 192 ≤ get_or s (suc n) 0 =
    subst (λ (j : ℕ). j < length s → 128 ≤ get_or s j 0 → 192 ≤ get_or s j 0) k (lead_after_ascii s n u a) in
    (omega arith, m)

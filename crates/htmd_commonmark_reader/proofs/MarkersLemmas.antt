-- Numbers of items: up to nine digits.
use Rattle.std.proofs.Common.{◌≡◌, ℕ, zero, suc, ◌+◌, ◌-◌, ◌*◌, ◌<◌, ◌≤◌, true, false, List, [], ◌∷◌, length}
use Rattle.std.proofs.Common.{take, drop, get_or, refl, ap, sym, ◌∙◌, arith, Some, None, codes}
use Rattle.std.proofs.lemmas.Bool.{and_parts}
use Rattle.std.proofs.lemmas.Bool.Decides.{nat_tests}
use Rattle.std.proofs.lemmas.List.{drop_more, get_or_past}
use Rattle.std.specs.Char.{is_ascii_digit}
use Rattle.std.specs.List.{list_all}
use Rattle.std.specs.Prelude.{nat_le}
use Rattle.htmd_lexical.proofs.Cases.{test}
use Rattle.htmd_lexical.proofs.LeadingRunsLemmas.{front_all}
use Rattle.htmd_lexical.proofs.RunsLemmas.{take_run}
use Rattle.htmd_lexical.specs.Characters.{is_one_of}
use Rattle.htmd_lexical.specs.CharacterClasses.{leading_run}
use Rattle.htmd_lexical.specs.Numbers.{number, digit_value}
use Rattle.htmd_commonmark_reading.specs.BlockStarts.{digits, number_of, delimiter}
use Rattle.htmd_commonmark_reader.specs.Markers.{numbered}

-- more than any number of so many digits
abbrev pub beyond : ℕ → ℕ
beyond zero = 1
beyond (suc n) = 10 * beyond n

beyond_more : (k n : ℕ) → beyond n ≤ beyond (k + n)
beyond_more zero n = let same : n ≡ zero + n = omega arith in omega (arith, ap beyond same)
beyond_more (suc k) n =
    let same : suc (k + n) ≡ suc k + n = omega arith in
    omega (arith, beyond_more k n, ap beyond same)

pub few_beyond : (n : ℕ) → n ≤ 9 → beyond n ≤ 1000000000
few_beyond n l =
    let same : 9 - n + n ≡ 9 = omega (arith, l) in
    omega (arith, beyond_more (9 - n) n, ap beyond same)

digit_at : (s : List ℕ) (i : ℕ) → list_all is_ascii_digit s ≡ true → i < length s
    → is_ascii_digit (get_or s i 0) ≡ true
digit_at [] i e l = absurd (omega arith)
digit_at (c ∷ s) zero e l = (and_parts (is_ascii_digit c) (list_all is_ascii_digit s) e).0
digit_at (c ∷ s) (suc i) e l = digit_at s i ((and_parts (is_ascii_digit c) (list_all is_ascii_digit s) e).1)
    (omega arith)

-- a digit and its value
pub digit_here : (s : List ℕ) (i : ℕ) → list_all is_ascii_digit s ≡ true → i < length s
    → (48 ≤ get_or s i 0) × (get_or s i 0 ≤ 57) × (digit_value (get_or s i 0) ≡ get_or s i 0 - 48)
digit_here s i e l =
    let d = digit_at s i e l in
    (grind (arith, nat_tests), grind (arith, nat_tests), rw d refl)

pub number_next : (s : List ℕ) (i sum : ℕ) → list_all is_ascii_digit s ≡ true → i < length s
    → number 10 sum (drop i s) ≡ number 10 (10 * sum + (get_or s i 0 - 48)) (drop (i + 1) s)
number_next s i sum e l =
    ap (number 10 sum) (drop_more s i 0 l)
    ∙ ap (λ d. number 10 (10 * sum + d) (drop (i + 1) s)) ((digit_here s i e l).2)

pub sum_next : (i sum d : ℕ) → sum < beyond i → d ≤ 9 → 10 * sum + d < beyond (i + 1)
sum_next i sum d l m =
    let same : suc i ≡ i + 1 = omega arith in omega (arith, l, m, ap beyond same)

-- ---- markers

delimiter_at : (s : List ℕ) → delimiter s ≡ get_or s (length (leading_run is_ascii_digit s)) 0
delimiter_at [] = refl
delimiter_at (c ∷ s) =
    test (is_ascii_digit c) (λ e. rw e (delimiter_at s)) (λ e. rw e refl)

module _ (s : List ℕ) (n : ℕ) (e : n ≡ length (leading_run is_ascii_digit s)) where
  sign_at : delimiter s ≡ get_or s n 0
  sign_at = delimiter_at s ∙ ap (λ k. get_or s k 0) (sym e)

  digits_at : take n s ≡ digits s
  digits_at = ap (λ k. take k s) e ∙ take_run is_ascii_digit s

  pub are_digits : list_all is_ascii_digit (take n s) ≡ true
  are_digits = ap (list_all is_ascii_digit) digits_at ∙ front_all is_ascii_digit s

  pub marker_long : 9 < n → None ≡ numbered s
  marker_long l =
      let long : nat_le (length (digits s)) 9 ≡ false = grind (arith, nat_tests) in rw long refl

  pub marker_other : is_one_of (codes ".)") (get_or s n 0) ≡ false → None ≡ numbered s
  marker_other f =
      test (nat_le (length (digits s)) 9) (λ q. rw (q, sign_at, f) refl) (λ q. rw q refl)

  pub marker_end : n ≡ length s → None ≡ numbered s
  marker_end l =
      let past : get_or s n 0 ≡ 0 = get_or_past s n 0 (omega (arith, l)) in
      let none : is_one_of (codes ".)") (get_or s n 0) ≡ false = ap (is_one_of (codes ".)")) past in
      marker_other none

  pub marker_some : (value : ℕ) → n ≤ 9 → is_one_of (codes ".)") (get_or s n 0) ≡ true
      → value ≡ number 10 0 (take n s)
      → Some (record { sign = get_or s n 0; number = value; size = n + 1 }) ≡ numbered s
  marker_some value l f g =
      let short : nat_le (length (digits s)) 9 ≡ true = grind (arith, nat_tests) in
      let same : number_of s ≡ value = ap (number 10 0) (sym digits_at) ∙ sym g in
      let size : suc (length (digits s)) ≡ n + 1 = omega (arith, e) in
      rw (short, sign_at, f, same, size) refl

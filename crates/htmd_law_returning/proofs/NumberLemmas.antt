-- A number that is written is read as itself.
use Rattle.std.proofs.Common.{◌≡◌, ℕ, suc, ◌+◌, ◌-◌, ◌*◌, ◌/◌, ◌%◌, ◌≤◌, ◌<◌}
use Rattle.std.proofs.Common.{true, false, cond}
use Rattle.std.proofs.Common.{List, [], ◌∷◌, length, refl, ap, ◌∙◌, arith, Some, None}
use Rattle.std.specs.Prelude.{take, min, pos, ◌^◌, nat_lt}
use Rattle.std.specs.Char.{is_ascii_digit}
use Rattle.std.specs.Fmt.{decimal}
use Rattle.std.specs.Option.{option_map}
use Rattle.std.specs.List.{list_all, prefix_len}
use Rattle.std.proofs.lemmas.Bool.{and_parts}
use Rattle.std.proofs.lemmas.Bool.Decides.{nat_tests}
use Rattle.std.proofs.lemmas.Fmt.{decimal_by_steps, decimal_nonempty}
use Rattle.std.proofs.lemmas.List.Sums.{fold-append}
use Rattle.htmd_lexical.specs.Characters.{plus_sign, hyphen, digit_zero}
use Rattle.htmd_lexical.specs.WhiteSpace.{is_ascii_white_space}
use Rattle.htmd_shown.specs.Attributes.{number, number_of_digits, greatest_number}
use Rattle.htmd_law_rendering.proofs.ByteLemmas.{decimal-digits, no-digit}

least : (n : ℕ) → n ≤ greatest_number → min greatest_number n ≡ n
least n h = grind (arith, h)

-- one more digit
step-value : (n v : ℕ) → v ≡ n / 10 → v * 10 + ((48 + n % 10) - 48) ≡ n
step-value n v h = omega (arith, h)

digits-value : (n : ℕ) → n < 2 ^ 64 → n ≤ greatest_number → number_of_digits (decimal n) ≡ n
digits-value n h = decimal_by_steps (λ m ds. m ≤ greatest_number → number_of_digits ds ≡ m)
    (λ m low g. ap (min greatest_number) (one m) ∙ least m g)
    (λ m ds high before g.
    fold-append (λ v digit. min greatest_number (v * 10 + (digit - digit_zero))) 0 ds ((48 + m % 10) ∷ [])
    ∙ (ap (min greatest_number) (step-value m (number_of_digits ds) (before (omega (arith, g)))) ∙ least m g)) n h
  where
    one : (m : ℕ) → 0 * 10 + ((48 + m) - 48) ≡ m
    one m = omega arith

all-digits : (ds : List ℕ) → list_all is_ascii_digit ds ≡ true → take (prefix_len is_ascii_digit ds) ds ≡ ds
all-digits [] h = refl
all-digits (d ∷ ds) h =
    let parts = and_parts (is_ascii_digit d) (list_all is_ascii_digit ds) h in
    ap (λ b. take (cond b (1 + prefix_len is_ascii_digit ds) 0) (d ∷ ds)) parts.0
    ∙ (ap (λ k. take k (d ∷ ds)) (next (prefix_len is_ascii_digit ds))
    ∙ ap (λ xs. d ∷ xs) (all-digits ds parts.1))
  where
    next : (k : ℕ) → 1 + k ≡ suc k
    next k = omega arith

no-white : (d : ℕ) → is_ascii_digit d ≡ true → is_ascii_white_space d ≡ false
no-white d h = grind (arith, nat_tests, h)

digits-read : (ds : List ℕ) → 0 < length ds → list_all is_ascii_digit ds ≡ true
    → number ds ≡ Some (pos (number_of_digits ds))
digits-read [] some h = absurd (omega (arith, some))
digits-read (d ∷ ds) some h =
    let parts = and_parts (is_ascii_digit d) (list_all is_ascii_digit ds) h in
    let filled : nat_lt 0 (length (d ∷ ds)) ≡ true = grind (arith, nat_tests, some) in
    rw (
      no-white d parts.0,
      no-digit plus_sign d parts.0 refl,
      no-digit hyphen d parts.0 refl,
      all-digits (d ∷ ds) h,
    ) (ap (λ b. option_map pos (cond b (Some (number_of_digits (d ∷ ds))) None)) filled)

pub number-read : (n : ℕ) → n < 2 ^ 64 → n ≤ greatest_number → number (decimal n) ≡ Some (pos n)
number-read n h low =
    digits-read (decimal n) (decimal_nonempty n h) (decimal-digits n)
    ∙ ap (λ m. Some (pos m)) (digits-value n h low)

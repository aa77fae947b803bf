-- What `parse` reads of an attribute `start` is the number of the first item.
use Rattle.std.proofs.Common.{◌≡◌, ℕ, zero, suc, ◌<◌, ◌^◌, Bool, true, false, cond, List, [], ◌∷◌, length, get_or, drop}
use Rattle.std.proofs.Common.{refl, sym, ◌∙◌, arith, Ok, Err, Some}
use Rattle.std.specs.Prelude.{◌&&◌, ◌==◌, nat_lt, ℤ, pos, negsuc, neg_ℤ, Result, unsigned_abs}
use Rattle.std.specs.Int.{w32}
use Rattle.std.specs.Result.{OkIff}
use Rattle.std.specs.Str.{all_ascii_digits}
use Rattle.std.specs.Str.Parse.{ParsesSigned, digits_value}
use Rattle.std.proofs.lemmas.Bool.{and_parts}
use Rattle.std.proofs.lemmas.Bool.Decides.{nat_tests}
use Rattle.std.proofs.lemmas.Str.Parse.{IsNumeralModel, numerals_by_value, tells_all_ascii_digits, parse_signed_minus}
use Rattle.std.proofs.lemmas.Str.Parse.{parse_signed_plain, parse_signed_plus, without_leading_plus_none}
use Rattle.std.proofs.lemmas.Str.Parse.{without_leading_plus_plus}
use Rattle.htmd_markdown.specs.Lists.{first_number}
use lib.Signed.{lt_z}

own : IsNumeralModel (λ ds. all_ascii_digits ds ≡ true) (digits_value 10)
own = numerals_by_value (λ ds. all_ascii_digits ds ≡ true) tells_all_ascii_digits

-- the number, if it is above 0
abbrev pub above_zero : ℤ → ℕ
above_zero (pos zero) = 1
above_zero (pos (suc n)) = suc n
above_zero (negsuc n) = 1

abbrev pub counted : {E : Type 0} → Result ℤ E → ℕ
counted (Ok z) = above_zero z
counted (Err e) = 1

abbrev is_counted : Bool → Bool → ℕ → Bool
is_counted some digits number = some && digits && nat_lt 0 number && nat_lt number (2 ^ 31)

number_counts : (some digits : Bool) (n : ℕ) → some ≡ true → digits ≡ true → n < 2 ^ 31
    → cond (is_counted some digits n) n 1 ≡ above_zero (pos n)
number_counts some digits zero s d small = rw (s, d) refl
number_counts some digits (suc n) s d small =
    let above : nat_lt 0 (suc n) ≡ true = grind (arith, nat_tests) in
    let below : nat_lt (suc n) (2 ^ 31) ≡ true = grind (arith, nat_tests) in
    rw (s, d, above, below) refl

no_number : (t : Bool) (n : ℕ) → (t ≡ true → ⊥) → cond t n 1 ≡ 1
no_number true n not = absurd (not refl)
no_number false n not = refl

numeral_counts : {E : Type 0} (ds : List ℕ) (r : Result ℤ E)
    → OkIff r ((all_ascii_digits ds ≡ true) × (0 < length ds) × (digits_value 10 ds < 2 ^ 31))
    (pos (digits_value 10 ds)) → cond (is_counted (nat_lt 0 (length ds)) (all_ascii_digits ds) (digits_value 10 ds))
    (digits_value 10 ds) 1 ≡ counted r
numeral_counts ds (Ok z) h =
    let some : nat_lt 0 (length ds) ≡ true = grind (arith, nat_tests, h.0.1) in
    rw h.1 (number_counts (nat_lt 0 (length ds)) (all_ascii_digits ds) (digits_value 10 ds) some h.0.0 h.0.2)
numeral_counts ds (Err e) h =
    no_number (is_counted (nat_lt 0 (length ds)) (all_ascii_digits ds) (digits_value 10 ds)) (digits_value 10 ds) (λ t.
    let last = and_parts (nat_lt 0 (length ds) && all_ascii_digits ds && nat_lt 0 (digits_value 10 ds))
    (nat_lt (digits_value 10 ds) (2 ^ 31)) t in
    let first = and_parts (nat_lt 0 (length ds)) (all_ascii_digits ds)
    (and_parts (nat_lt 0 (length ds) && all_ascii_digits ds) (nat_lt 0 (digits_value 10 ds)) last.0).0 in
    h (first.1, grind (arith, nat_tests), grind (arith, nat_tests)))

negative_counts : (n : ℕ) → above_zero (neg_ℤ (pos n)) ≡ 1
negative_counts zero = refl
negative_counts (suc n) = refl

minus_counts : {E : Type 0} (P : Type 0) (n : ℕ) (r : Result ℤ E) → OkIff r P (neg_ℤ (pos n))
    → counted r ≡ 1
minus_counts P n (Ok z) h = rw h.1 (negative_counts n)
minus_counts P n (Err e) h = refl

minus_is_no_digit : (s : List ℕ) → get_or s 0 0 ≡ 45 → all_ascii_digits s ≡ false
minus_is_no_digit [] e = cc
minus_is_no_digit (b ∷ s) e = rw e refl

no_digits : (some : Bool) (n : ℕ) → cond (is_counted some false n) n 1 ≡ 1
no_digits true n = refl
no_digits false n = refl

read_with_sign : {E : Type 0} (s : List ℕ) (r : Result ℤ E) (plus minus : Bool) → (get_or s 0 0 == 43) ≡ plus
    → (get_or s 0 0 == 45) ≡ minus → ParsesSigned w32 10 s r → first_number (Some s) ≡ counted r
read_with_sign s r true minus plus_is minus_is h =
    let first : get_or s 0 0 ≡ 43 = grind (arith, nat_tests) in
    rw (without_leading_plus_plus s first) (numeral_counts (drop 1 s) r (parse_signed_plus own w32 s r h first))
read_with_sign s r false true plus_is minus_is h =
    let first : get_or s 0 0 ≡ 45 = grind (arith, nat_tests) in
    let other : ¬ (get_or s 0 0 ≡ 43) = λ e. omega (arith, e, first) in
    let read = parse_signed_minus own w32 s r h first in
    rw (without_leading_plus_none s other, minus_is_no_digit s first)
    (no_digits (nat_lt 0 (length s)) (digits_value 10 s) ∙ sym (minus_counts _ (digits_value 10 (drop 1 s)) r read))
read_with_sign s r false false plus_is minus_is h =
    let plus : ¬ (get_or s 0 0 ≡ 43) = λ e. grind (arith, nat_tests) in
    let minus : ¬ (get_or s 0 0 ≡ 45) = λ e. grind (arith, nat_tests) in
    rw (without_leading_plus_none s plus) (numeral_counts s r (parse_signed_plain own w32 s r h plus minus))

pub read_number : {E : Type 0} (s : List ℕ) (r : Result ℤ E) → ParsesSigned w32 10 s r
    → first_number (Some s) ≡ counted r
read_number s r h = read_with_sign s r (get_or s 0 0 == 43) (get_or s 0 0 == 45) refl refl h

pub positive : (z : ℤ) → lt_z (pos 0) z ≡ true → above_zero z ≡ unsigned_abs z
positive (pos zero) above = cc
positive (pos (suc n)) above = refl
positive (negsuc n) above = cc

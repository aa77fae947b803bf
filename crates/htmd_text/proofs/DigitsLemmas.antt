-- One digit at a time.
use Rattle.std.proofs.Common.{◌≡◌, ℕ, zero, suc, ◌+◌, ◌/◌, ◌<◌, ◌≤◌, ◌^◌, length, refl, sym, ap, ◌∙◌, arith}
use Rattle.std.specs.Int.Digits.{digits_of}
use Rattle.std.proofs.lemmas.Bool.Decides.{nat_tests}
use Rattle.std.proofs.lemmas.Int.Digits.{length-digits_of_step, length-digits_of-le}
use Rattle.htmd_text.specs.Digits.{digits}

digits_of_some : (n : ℕ) → 0 < n → digits n ≡ length (digits_of 10 n)
digits_of_some n some = grind (arith, nat_tests)

pub digits_more : (n : ℕ) → 10 ≤ n → digits n ≡ digits (n / 10) + 1
digits_more n large =
    digits_of_some n (omega arith) ∙ length-digits_of_step 10 n (omega arith) (omega arith)
    ∙ ap (λ k. k + 1) (sym (digits_of_some (n / 10) (omega arith)))

pub digits_one : (n : ℕ) → n < 10 → digits n ≡ 1
digits_one zero small = refl
digits_one (suc n) small =
    let none : suc n / 10 ≡ 0 = omega arith in
    digits_of_some (suc n) (omega arith) ∙ length-digits_of_step 10 (suc n) (omega arith) (omega arith)
    ∙ ap (λ k. length (digits_of 10 k) + 1) none

pub digits_le : (n : ℕ) → n < 2 ^ 64 → digits n ≤ 20
digits_le zero small = omega arith
digits_le (suc n) small =
    omega (arith, digits_of_some (suc n) (omega arith), length-digits_of-le 10 20 (suc n) (omega arith) (omega arith))

-- Where a text may be cut after characters with which it begins, in any case.
use Rattle.std.proofs.Common.{◌≡◌, ℕ, zero, suc, ◌+◌, ◌<◌, ◌≤◌, Bool, true, ◌==◌, List, [], ◌∷◌, length, get_or, refl}
use Rattle.std.proofs.Common.{subst, arith}
use Rattle.std.specs.Prelude.{nat_lt}
use Rattle.std.specs.List.{list_all}
use Rattle.std.specs.Char.{to_ascii_lowercase}
use Rattle.std.specs.Str.{IsUtf8}
use Rattle.std.proofs.lemmas.Bool.Decides.{nat_tests}
use Rattle.std.proofs.lemmas.Str.{lead_after_ascii}
use Rattle.std.proofs.lemmas.Bool.{and_parts}
use Rattle.htmd_lexical.proofs.Cases.{test}
use Rattle.htmd_lexical.specs.CharacterClasses.{begins_in_any_case}

abbrev all_ascii : List ℕ → Bool
all_ascii p = list_all (λ c. nat_lt c 128) p

lower_ascii : (b c : ℕ) → (to_ascii_lowercase b == c) ≡ true → nat_lt c 128 ≡ true → b < 128
lower_ascii b c e l =
    test (nat_lt b 65) (λ q. grind (arith, nat_tests))
    (λ q. test (nat_lt b 91) (λ r. grind (arith, nat_tests))
    (λ r. let k = rw q at e in let m = rw r at k in grind (arith, nat_tests)))

pub begins_within : (p s : List ℕ) → begins_in_any_case p s ≡ true → length p ≤ length s
begins_within [] s e = omega arith
begins_within (c ∷ p) [] e = absurd (cc)
begins_within (c ∷ p) (b ∷ s) e =
    let h = begins_within p s ((and_parts (to_ascii_lowercase b == c) (begins_in_any_case p s) e).1) in omega arith

last_ascii : (p s : List ℕ) (n : ℕ) → begins_in_any_case p s ≡ true → all_ascii p ≡ true
    → length p ≡ suc n
    → get_or s n 0 < 128
last_ascii [] s n e a l = absurd (omega arith)
last_ascii (c ∷ p) [] n e a l = absurd (cc)
last_ascii (c ∷ p) (b ∷ s) zero e a l =
    lower_ascii b c ((and_parts (to_ascii_lowercase b == c) (begins_in_any_case p s) e).0)
    ((and_parts (nat_lt c 128) (all_ascii p) a).0)
last_ascii (c ∷ p) (b ∷ s) (suc n) e a l =
    last_ascii p s n ((and_parts (to_ascii_lowercase b == c) (begins_in_any_case p s) e).1)
    ((and_parts (nat_lt c 128) (all_ascii p) a).1) (omega arith)

pub lead_behind : (p s : List ℕ) → IsUtf8 s → begins_in_any_case p s ≡ true → all_ascii p ≡ true
    → 0 < length p
    → length p < length s → 128 ≤ get_or s (length p) 0 → 192 ≤ get_or s (length p) 0
lead_behind [] s u e a l = absurd (omega arith)
lead_behind (c ∷ p) s u e a l =
    let n : length p + 1 ≡ suc (length p) = omega arith in
    subst (λ k. k < length s → 128 ≤ get_or s k 0 → 192 ≤ get_or s k 0) n
    (lead_after_ascii s (length p) u (last_ascii (c ∷ p) s (length p) e a refl))

-- How a text begins, and that it may be cut after that.
use Rattle.std.proofs.Common.{◌≡◌, ℕ, zero, suc, ◌<◌, ◌≤◌, true, false, List, [], ◌∷◌, length, take, refl, sym}
use Rattle.std.proofs.Common.{subst, arith}
use Rattle.std.proofs.lemmas.Bool.{and_parts}
use Rattle.std.proofs.lemmas.Bool.Decides.{nat_tests}
use Rattle.std.proofs.lemmas.Str.{IsCharBoundary-from_take, IsUtf8-from_ascii}
use Rattle.std.specs.List.{list_all}
use Rattle.std.specs.Prelude.{nat_lt, ◌==◌}
use Rattle.std.specs.Str.{IsUtf8, IsCharBoundary, IsAscii}
use Rattle.htmd_lexical.specs.CharacterClasses.{begins_with}

pub begins_no_further : (cs s : List ℕ) → 0 < length cs → length s < 1 → begins_with cs s ≡ false
begins_no_further [] s l m = absurd (omega arith)
begins_no_further (c ∷ cs) [] l m = refl
begins_no_further (c ∷ cs) (b ∷ s) l m = absurd (omega arith)

-- a text that begins with a name
pub begins_front : (n s : List ℕ) → begins_with n s ≡ true
    → (length n ≤ length s) × (take (length n) s ≡ n)
begins_front [] s e = (omega arith, refl)
begins_front (c ∷ n) [] e = absurd (cc)
begins_front (c ∷ n) (b ∷ s) e =
    let q = and_parts (b == c) (begins_with n s) e in
    let h = begins_front n s q.1 in
    (omega (arith, h.0), rw (same q.0, h.1) refl)
  where
    same : (b == c) ≡ true → b ≡ c
    same h = grind (arith, nat_tests)

low : (b : ℕ) → nat_lt b 128 ≡ true → b < 128
low b e = grind (arith, nat_tests)

ascii_all : (n : List ℕ) → list_all (λ b. nat_lt b 128) n ≡ true → IsAscii n
ascii_all [] e i = omega arith
ascii_all (b ∷ n) e zero =
    let h = and_parts (nat_lt b 128) (list_all (λ b. nat_lt b 128) n) e in low b h.0
ascii_all (b ∷ n) e (suc i) =
    let h = and_parts (nat_lt b 128) (list_all (λ b. nat_lt b 128) n) e in ascii_all n h.1 i

-- a text may be cut after ASCII characters with which it begins
pub cut_after_beginning : (p s : List ℕ) → IsUtf8 s → begins_with p s ≡ true
    → list_all (λ b. nat_lt b 128) p ≡ true
    → IsCharBoundary s (length p)
cut_after_beginning p s u e a =
    let f = begins_front p s e in
    let t : IsUtf8 (take (length p) s) = subst IsUtf8 (sym f.1) (IsUtf8-from_ascii p (ascii_all p a)) in
    IsCharBoundary-from_take s (length p) u f.0 t

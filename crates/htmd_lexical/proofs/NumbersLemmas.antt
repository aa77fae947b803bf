-- The number that digits give, counted no further than the last code point.
use Rattle.std.proofs.Common.{◌≡◌, ◌⊎◌, ℕ, ◌+◌, ◌*◌, ◌<◌, ◌≤◌, min, List, [], ◌∷◌, length, drop, get_or, ap, arith}
use Rattle.std.proofs.Common.{inl, inr}
use Rattle.std.proofs.lemmas.Bool.{cases_lt}
use Rattle.std.proofs.lemmas.List.{drop_more}
use Rattle.std.proofs.Math.Nat.{mul-le-mul_left}
use Rattle.htmd_lexical.specs.Numbers.{number, digit_value}

abbrev pub limit : ℕ
limit = 0x11_0000

grows : (base x : ℕ) → 0 < base → x ≤ base * x
grows base x l = let m = mul-le-mul_left x l' in omega (arith, m)
  where
    l' : 1 ≤ base
    l' = omega arith

capped_step : (base x y d : ℕ) → 0 < base → min x limit ≡ min y limit
    → min (base * x + d) limit ≡ min (base * y + d) limit
capped_step base x y d l e = go (cases_lt x limit)
  where
    go : (x < limit) ⊎ (limit ≤ x) → min (base * x + d) limit ≡ min (base * y + d) limit
    go (inl q) = let same : x ≡ y = omega arith in ap (λ z. min (base * z + d) limit) same
    go (inr q) = omega (arith, grows base x l, grows base y l)

number_capped : (base x y : ℕ) (s : List ℕ) → 0 < base → min x limit ≡ min y limit
    → min (number base x s) limit ≡ min (number base y s) limit
number_capped base x y [] l e = e
number_capped base x y (b ∷ s) l e =
    number_capped base (base * x + digit_value b) (base * y + digit_value b) s l
    (capped_step base x y (digit_value b) l e)

-- one more digit
pub number_more : (base sum next i : ℕ) (s : List ℕ) → 0 < base → i < length s
    → next ≡ min limit (base * sum + digit_value (get_or s i 0))
    → min (number base next (drop (i + 1) s)) limit ≡ min (number base sum (drop i s)) limit
number_more base sum next i s l m e =
    rw (drop_more s i 0 m)
    (number_capped base next (base * sum + digit_value (get_or s i 0)) (drop (i + 1) s) l (omega arith))

-- How many columns a cell takes.
use Rattle.std.proofs.Common.{◌≡◌, ℕ, zero, suc, ◌+◌, ◌-◌, ◌<◌, ◌≤◌, Bool, true, false, cond, List, [], ◌∷◌, length}
use Rattle.std.proofs.Common.{◌∙◌, arith, take}
use Rattle.std.specs.Prelude.{◌==◌, if◌then◌else◌, nat_le, min}
use Rattle.std.specs.List.{prefix_len}
use Rattle.std.proofs.lemmas.Bool.Decides.{nat_tests}
use Rattle.std.proofs.lemmas.List.{length-take-le}
use Rattle.std.proofs.lemmas.List.Sums.{prefix_len-le-length}
use Rattle.htmd_flow.specs.Grids.{columns_before}

-- what passes among the first ones
near : (p : ℕ → Bool) (n : ℕ) (xs : List ℕ) → prefix_len p (take n xs) ≡ min n (prefix_len p xs)
near p zero xs = search arith
near p (suc n) [] = search arith
near p (suc n) (x ∷ xs) = by (p x) (near p n xs) where
  by : (b : Bool) → prefix_len p (take n xs) ≡ min n (prefix_len p xs)
      → cond b (1 + prefix_len p (take n xs)) 0 ≡ min (suc n) (cond b (1 + prefix_len p xs) 0)
  by true e = omega (arith, e)
  by false e = omega arith

-- all of these are free, or the next one that isn't is among them
all-near : (count len n columns m : ℕ) → count ≤ len → n ≡ min len columns → m ≡ min n count → m ≡ n
    → columns ≡ (if count == len then columns else min columns count)
all-near count len n columns m within shorter seen all = grind (arith, nat_tests)

some-near : (count len n columns m : ℕ) → count ≤ len → n ≡ min len columns → m ≡ min n count → m < n
    → m ≡ (if count == len then columns else min columns count)
some-near count len n columns m within shorter seen fewer = grind (arith, nat_tests)

module _ (free : List ℕ) (row columns n m : ℕ) (shorter : n ≡ min (length free) columns)
    (seen : m ≡ prefix_len (λ until. nat_le until row) (take n free)) where
  size : length (take n free) ≡ n
  size = length-take-le n free (omega (arith, shorter))

  pub all-free : m ≡ length (take n free) → columns ≡ columns_before free row columns
  all-free all =
      all-near (prefix_len (λ until. nat_le until row) free) (length free) n columns m
      (prefix_len-le-length (λ until. nat_le until row) free) shorter
      (seen ∙ near (λ until. nat_le until row) n free) (all ∙ size)

  pub some-free : m < length (take n free) → m ≡ columns_before free row columns
  some-free fewer =
      some-near (prefix_len (λ until. nat_le until row) free) (length free) n columns m
      (prefix_len-le-length (λ until. nat_le until row) free) shorter
      (seen ∙ near (λ until. nat_le until row) n free) (omega (arith, fewer, size))

-- How deep nodes among others are.
use Rattle.std.proofs.Common.{◌≡◌, ℕ, zero, suc, ◌<◌, ◌≤◌, List, [], ◌∷◌, length, get_or, take, drop, map, sym}
use Rattle.std.proofs.Common.{arith, subst}
use Rattle.htmd_shown.specs.declared.simple.Simple.{Simple}
use Rattle.htmd_shown.specs.SimpleViews.{simple_of}
use Rattle.htmd_flow.specs.Levels.{height, highest}

pub highest_drop : (ts : List Simple) (k : ℕ) → highest (map simple_of (drop k ts)) ≤ highest (map simple_of ts)
highest_drop [] zero = omega arith
highest_drop [] (suc k) = omega arith
highest_drop (t ∷ ts) zero = omega arith
highest_drop (t ∷ ts) (suc k) =
    let h : highest (map simple_of (drop k ts)) ≤ highest (map simple_of ts) = highest_drop ts k in
    omega (arith, h)

pub highest_take : (ts : List Simple) (k : ℕ) → highest (map simple_of (take k ts)) ≤ highest (map simple_of ts)
highest_take [] zero = omega arith
highest_take [] (suc k) = omega arith
highest_take (t ∷ ts) zero = omega arith
highest_take (t ∷ ts) (suc k) =
    let h : highest (map simple_of (take k ts)) ≤ highest (map simple_of ts) = highest_take ts k in
    omega (arith, h)

pub highest_slice : (ts : List Simple) (n k : ℕ)
    → highest (map simple_of (take n (drop k ts))) ≤ highest (map simple_of ts)
highest_slice ts n k =
    let a : highest (map simple_of (take n (drop k ts))) ≤ highest (map simple_of (drop k ts)) =
    highest_take (drop k ts) n in
    let b : highest (map simple_of (drop k ts)) ≤ highest (map simple_of ts) = highest_drop ts k in
    omega (arith, a, b)

pub highest_at : (ts : List Simple) (k : ℕ) (t : Simple) → k < length ts → t ≡ get_or ts k t
    → height (simple_of t) ≤ highest (map simple_of ts)
highest_at [] k t l e = absurd (omega arith)
highest_at (x ∷ ts) zero t l e =
    subst (λ (y : Simple). height (simple_of y) ≤ highest (map simple_of (x ∷ ts))) (sym e)
    (omega arith)
highest_at (x ∷ ts) (suc k) t l e =
    let h : height (simple_of t) ≤ highest (map simple_of ts) = highest_at ts k t (omega arith) e in
    omega (arith, h)

-- the highest of what is taken of a list
pub ruleset highest_steps = (highest_at, highest_slice, highest_take)

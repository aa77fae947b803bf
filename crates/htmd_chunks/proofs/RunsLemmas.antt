-- Runs put together are what was cut.
use Rattle.std.proofs.Common.{◌≡◌, ℕ, Bool, true, false, cond, List, [], ◌∷◌, ◌++◌, refl, sym, ap}
use Rattle.std.proofs.Common.{◌∙◌, append_assoc}
use Rattle.std.specs.Prelude.{◌&&◌, ◌||◌, nat_le}
use Rattle.htmd_chunks.specs.Runs.{is_none, runs_from, runs, together}

-- ---- tests

pub and_left : (a b : Bool) → (a && b) ≡ true → a ≡ true
and_left true b e = refl
and_left false b e = absurd (cc)

pub and_right : (a b : Bool) → (a && b) ≡ true → b ≡ true
and_right true b e = e
and_right false b e = absurd (cc)

-- ---- runs together

pub together-append : {X : Type 0} (xss yss : List (List X)) → together (xss ++ yss) ≡ together xss ++ together yss
together-append [] yss = refl
together-append (xs ∷ xss) yss =
    ap (λ l. xs ++ l) (together-append xss yss) ∙ sym (append_assoc xs (together xss) (together yss))

pub runs_from-together : {X : Type 0} (taken : List X → ℕ) (most free : ℕ) (begun xs : List X)
    → together (runs_from taken most free begun xs) ≡ begun ++ xs
runs_from-together taken most free begun [] = refl
runs_from-together {X} taken most free begun (x ∷ xs) =
    elim (is_none begun || nat_le (taken (begun ++ x ∷ [])) free)
    as (λ b. together (cond b (runs_from taken most free (begun ++ x ∷ []) xs)
    (begun ∷ runs_from taken most most (x ∷ []) xs)) ≡ begun ++ x ∷ xs) [
      | true ↦ runs_from-together taken most free (begun ++ x ∷ []) xs ∙ append_assoc begun (x ∷ []) xs
      | false ↦ ap (λ l. begun ++ l) (runs_from-together taken most most (x ∷ []) xs)
    ]

pub runs-together : {X : Type 0} (taken : List X → ℕ) (most first : ℕ) (xs : List X)
    → together (runs taken most first xs) ≡ xs
runs-together taken most first xs = runs_from-together taken most first [] xs

pub data IsSomething {X : Type 0} : List X → Type 0 where
  something : (x : X) (xs : List X) → IsSomething (x ∷ xs)

pub runs_from-some : {X : Type 0} (taken : List X → ℕ) (most free : ℕ) (begun xs : List X)
    → IsSomething (runs_from taken most free begun xs)
runs_from-some taken most free begun [] = something begun []
runs_from-some taken most free begun (x ∷ xs) =
    elim (is_none begun || nat_le (taken (begun ++ x ∷ [])) free)
    as (λ b. IsSomething (cond b (runs_from taken most free (begun ++ x ∷ []) xs)
    (begun ∷ runs_from taken most most (x ∷ []) xs))) [
      | true ↦ runs_from-some taken most free (begun ++ x ∷ []) xs
      | false ↦ something begun (runs_from taken most most (x ∷ []) xs)
    ]

pub runs-some : {X : Type 0} (taken : List X → ℕ) (most first : ℕ) (xs : List X)
    → IsSomething (runs taken most first xs)
runs-some taken most first xs = runs_from-some taken most first [] xs

-- ---- nothing is empty

-- each unit has something in it
pub data HaveItems {X : Type 0} : List (List X) → Type 0 where
  no_units : HaveItems []
  unit_of : (x : X) (xs : List X) (units : List (List X)) → HaveItems units → HaveItems ((x ∷ xs) ∷ units)

pub have-append : {X : Type 0} (us vs : List (List X)) → HaveItems us → HaveItems vs → HaveItems (us ++ vs)
have-append us vs no_units have = have
have-append us vs (unit_of x xs units others) have =
    unit_of x xs (units ++ vs) (have-append units vs others have)

-- each run begins with a unit that has
pub data RunsHave {X : Type 0} : List (List (List X)) → Type 0 where
  no_runs : RunsHave []
  run_of : (x : X) (xs : List X) (units : List (List X)) (rest : List (List (List X))) → RunsHave rest
      → RunsHave (((x ∷ xs) ∷ units) ∷ rest)

pub runs-have : {X : Type 0} (taken : List (List X) → ℕ) (most free : ℕ) (x : X) (xs : List X)
    (units more : List (List X)) → HaveItems more
    → RunsHave (runs_from taken most free ((x ∷ xs) ∷ units) more)
runs-have taken most free x xs units more no_units = run_of x xs units [] no_runs
runs-have taken most free x xs units more (unit_of y ys rest others) =
    elim (nat_le (taken (((x ∷ xs) ∷ units) ++ (y ∷ ys) ∷ [])) free)
    as (λ b. RunsHave (cond b (runs_from taken most free (((x ∷ xs) ∷ units) ++ (y ∷ ys) ∷ []) rest)
    (((x ∷ xs) ∷ units) ∷ runs_from taken most most ((y ∷ ys) ∷ []) rest))) [
      | true ↦ runs-have taken most free x xs (units ++ (y ∷ ys) ∷ []) rest others
      | false ↦
          run_of x xs units (runs_from taken most most ((y ∷ ys) ∷ []) rest)
          (runs-have taken most most y ys [] rest others)
    ]

-- What is cut into runs, each with as many as fit and one at least.
use Rattle.std.specs.Prelude.{ℕ, Bool, true, false, ◌||◌, nat_le, if◌then◌else◌, List, [], ◌∷◌}
use Rattle.std.specs.Prelude.{◌++◌}

abbrev pub is_none : {X : Type 0} → List X → Bool
is_none [] = true
is_none (x ∷ xs) = false

-- behind a run that was begun and may take `free`; others may take `most`
abbrev pub runs_from : {X : Type 0} → (List X → ℕ) → ℕ → ℕ → List X → List X → List (List X)
runs_from taken most free begun [] = begun ∷ []
runs_from taken most free begun (x ∷ xs) =
    if is_none begun || nat_le (taken (begun ++ x ∷ [])) free
    then runs_from taken most free (begun ++ x ∷ []) xs
    else begun ∷ runs_from taken most most (x ∷ []) xs

-- `taken`: what a run takes; the first may take `first`
abbrev pub runs : {X : Type 0} → (List X → ℕ) → ℕ → ℕ → List X → List (List X)
runs taken most first xs = runs_from taken most first [] xs

-- all of them in one list
abbrev pub together : {X : Type 0} → List (List X) → List X
together [] = []
together (xs ∷ rest) = xs ++ together rest

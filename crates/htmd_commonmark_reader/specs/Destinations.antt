-- What is left behind the bare destination that begins at each place of a text.
use Rattle.std.specs.Prelude.{◌≡◌, ◌⊎◌, ℕ, false, List, [], ◌∷◌, ◌++◌, length, Option, Some, option_map}
use Rattle.htmd_commonmark_reading.specs.Characters.{Front}
use Rattle.htmd_commonmark_reading.specs.LinkDefinitions.{bare}
use Rattle.htmd_commonmark_reader.specs.Steps.{IsEnd}

abbrev pub left_in : Option Front → Option ℕ
left_in f = option_map (λ f. length f.rest) f

abbrev pub left_of : List ℕ → Option ℕ
left_of s = left_in (bare 0 false s)

-- of each end of a text, the shortest first
abbrev pub lefts_of : List ℕ → List (Option ℕ)
lefts_of [] = Some 0 ∷ []
lefts_of (c ∷ s) = lefts_of s ++ (left_of (c ∷ s) ∷ [])

-- nothing is known, or what is left in a text that ends so
abbrev pub AreKnown : List (Option ℕ) → List ℕ → Type 0
AreKnown lefts s = (lefts ≡ []) ⊎ ((t : List ℕ) × IsEnd t s × (lefts ≡ lefts_of t))

-- Words between white space.
use Rattle.std.specs.Prelude.{ℕ, Bool, not, List, [], ◌∷◌}
use Rattle.htmd_lexical.specs.Characters.{space}
use Rattle.htmd_commonmark_reading.specs.Characters.{is_white}

abbrev pub is_of_word : ℕ → Bool
is_of_word c = not (is_white c)

-- a space, unless nothing follows
abbrev pub space_before : List ℕ → List ℕ
space_before [] = []
space_before (c ∷ s) = space ∷ []

-- The end tag that ends a text which is read without markup (HTML Standard, 13.1.2).
use Rattle.std.specs.Prelude.{ℕ, Bool, false, ◌&&◌, ◌||◌, ◌==◌, List, [], ◌∷◌}
use Rattle.std.specs.Char.{to_ascii_lowercase}
use Rattle.htmd_lexical.specs.Characters.{slash, less_than_sign, greater_than_sign}
use Rattle.htmd_lexical.specs.WhiteSpace.{is_ascii_white_space}

-- the name in any case, and then what ends the name of a tag
abbrev pub goes_on_with_name : List ℕ → List ℕ → Bool
goes_on_with_name [] [] = false
goes_on_with_name [] (b ∷ s) = is_ascii_white_space b || (b == slash) || (b == greater_than_sign)
goes_on_with_name (p ∷ ps) [] = false
goes_on_with_name (p ∷ ps) (b ∷ s) = (to_ascii_lowercase b == p) && goes_on_with_name ps s

-- the end of raw content of this element: `</`, its name, and white space, `/` or `>`
abbrev pub begins_own_end : List ℕ → List ℕ → Bool
begins_own_end n [] = false
begins_own_end n (b ∷ []) = false
begins_own_end n (b ∷ c ∷ s) = (b == less_than_sign) && (c == slash) && goes_on_with_name n s

-- The value of an attribute, by its name.
use Rattle.std.specs.Prelude.{ℕ, if◌then◌else◌, List, [], ◌∷◌, Option, Some, None}
use Rattle.std.specs.Str.{bytes_eq}
use Rattle.htmd_lexical.specs.AttributePairs.{AttributePair}

-- the value of the first attribute with this name
abbrev pub value_of : List ℕ → List AttributePair → Option (List ℕ)
value_of name [] = None
value_of name (a ∷ attributes) = if bytes_eq a.name name then Some a.value else value_of name attributes

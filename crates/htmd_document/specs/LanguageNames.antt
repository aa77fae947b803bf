-- What the name of a language can't hold.
use Rattle.std.specs.Prelude.{ℕ, Bool, ◌||◌, ◌==◌}
use Rattle.htmd_lexical.specs.Characters.{grave_accent, tilde, ampersand, backslash}

-- what a fence can't hold after it, or a reader takes for more than letters
abbrev pub is_mark : ℕ → Bool
is_mark b = (b == grave_accent) || (b == tilde) || (b == ampersand) || (b == backslash)

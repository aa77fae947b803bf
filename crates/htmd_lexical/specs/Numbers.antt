-- Numbers, as digits spell them.
use Rattle.std.specs.Prelude.{ℕ, ◌+◌, ◌-◌, ◌*◌, Bool, ◌&&◌, nat_le, if◌then◌else◌, List, [], ◌∷◌}
use Rattle.std.specs.Char.{to_ascii_lowercase, is_ascii_digit}
use Rattle.htmd_lexical.specs.Characters.{digit_zero, small_letter_a}

-- the value of a digit
abbrev pub digit_value : ℕ → ℕ
digit_value b =
    if is_ascii_digit b then b - digit_zero else to_ascii_lowercase b - small_letter_a + 10

-- what digits mean in a base, after others
abbrev pub number : ℕ → ℕ → List ℕ → ℕ
number base sum [] = sum
number base sum (b ∷ s) = number base (base * sum + digit_value b) s

abbrev pub is_between : ℕ → ℕ → ℕ → Bool
is_between low high c = nat_le low c && nat_le c high

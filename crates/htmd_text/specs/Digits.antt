-- How long a number is.
use Rattle.std.specs.Prelude.{ℕ, ◌==◌, if◌then◌else◌, length}
use Rattle.std.specs.Int.Digits.{digits_of}

-- the number of decimal digits, 1 for 0
abbrev pub digits : ℕ → ℕ
digits n = if n == 0 then 1 else length (digits_of 10 n)

-- What the characters of a run have in common.
use Rattle.std.specs.Prelude.{◌≡◌, ◌⊎◌, ℕ, ◌<◌, Bool, true, false}

-- all characters outside ASCII are of the class, or none is
abbrev pub IsUniform : (ℕ → Bool) → Type 0
IsUniform p = ((b : ℕ) → p b ≡ false → b < 128) ⊎ ((b : ℕ) → p b ≡ true → b < 128)

-- Where a text may be cut before a run at its end.
use Rattle.std.specs.Prelude.{◌≡◌, ℕ, ◌<◌, Bool, true}

-- what passes is ASCII
abbrev pub IsOfAscii : (ℕ → Bool) → Type 0
IsOfAscii passes = (b : ℕ) → passes b ≡ true → b < 128

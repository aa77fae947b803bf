-- How a source or a sink tells that it has failed, and what a failed write leaves.
use Rattle.std.specs.Prelude.{◌≡◌, ℕ, Bool, List, ◌++◌, Option, Result, MatchResult, IsTrue}
use Rattle.std.specs.Io.KnownBytes.{Appends}

-- an `Err` leaves the value failed, and an `Ok` leaves it as it was
abbrev pub FailsAtErr : {T E : Type 0} → Result T E → Bool → Bool → Type 0
FailsAtErr result before after = MatchResult result (λ _. after ≡ before) (λ _. IsTrue after)

-- a beginning of the bytes was appended
abbrev pub AppendsSome : Option (List ℕ) → Option (List ℕ) → List ℕ → Type 0
AppendsSome before after bytes =
    (part : List ℕ) × (rest : List ℕ) × (bytes ≡ part ++ rest) × Appends before after part

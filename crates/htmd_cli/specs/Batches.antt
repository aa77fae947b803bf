-- How a batch goes from row to row; only the contracts of private functions cite it.
use Rattle.std.specs.Prelude.{◌≡◌, ◌+◌, Bool, if◌then◌else◌, ℕ, List, [], ◌∷◌, ◌++◌, length}
use Rattle.htmd.specs.PageSettings.{Settings}
use Rattle.htmd_streams.specs.Lines.{rows}
use Rattle.htmd_cli.specs.Rows.{AreAnswers, counted}

-- Of the rows that each further input gives, some were answered, and the rest is left. What waits grew by the answers,
-- and the count of answered rows by their number.
pub record Answers (settings : Settings) (all rest : List ℕ → List (List ℕ)) (before after : List ℕ)
    (n m : ℕ) : Type 0 where
  pub done : List (List ℕ)
  pub written : List ℕ
  pub are : AreAnswers settings done written
  pub appended : after ≡ before ++ written
  pub number : counted m ≡ counted (n + length done)
  pub ahead : (tail : List ℕ) → all tail ≡ done ++ rest tail

-- the rows of what is open and what follows
abbrev pub rows_from : List ℕ → List ℕ → List (List ℕ)
rows_from begun tail = rows (begun ++ tail)

-- the same if the data goes on, else none
abbrev pub rows_left : Bool → List ℕ → List ℕ → List (List ℕ)
rows_left goes_on begun tail = if goes_on then rows_from begun tail else []

-- what was read, and what follows: nothing if nothing was read
abbrev pub followed : List ℕ → List ℕ → List ℕ
followed [] tail = []
followed (b ∷ s) tail = (b ∷ s) ++ tail

-- Attributes, as definitions speak of them.
use Rattle.std.specs.Prelude.{ℕ, List}

-- an attribute: its name and its value
pub record AttributePair : Type 0 where
  pub name : List ℕ
  pub value : List ℕ

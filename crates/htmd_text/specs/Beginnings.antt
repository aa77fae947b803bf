-- How one list goes on where another ends.
use Rattle.std.specs.Prelude.{◌≡◌, List, ◌++◌}

-- the whole is the front and a rest
pub record IsBeginning {X : Type 0} (front whole : List X) : Type 0 where
  pub rest : List X
  pub is : whole ≡ front ++ rest

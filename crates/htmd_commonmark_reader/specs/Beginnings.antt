-- Beginnings of a text, as the reader holds them: by how many characters they have.
use Rattle.std.specs.Prelude.{ℕ, List, take, Option, Some, None}

abbrev pub beginning_of : List ℕ → Option ℕ → Option (List ℕ)
beginning_of s None = None
beginning_of s (Some n) = Some (take n s)

-- How the code writes a text piece by piece; only private clauses cite this.
use Rattle.std.specs.Prelude.{◌≡◌, ℕ, true, List, ◌++◌, drop, slice_index}
use Rattle.std.specs.Char.{is_ascii}

-- in the text that is made of another one, this stands for the first byte, which is ASCII
pub record StandsFor (made_of : List ℕ → List ℕ) (s piece : List ℕ) : Type 0 where
  pub ascii : is_ascii (slice_index s 0) ≡ true
  pub whole : made_of s ≡ piece ++ made_of (drop 1 s)

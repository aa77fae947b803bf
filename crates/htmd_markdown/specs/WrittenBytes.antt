-- How a text is compared with an address as it is written, byte by byte; only private clauses cite this.
use Rattle.std.specs.Prelude.{◌≡◌, ℕ, false, if◌then◌else◌, List, [], ◌∷◌, ◌++◌, Option, Some, None}
use Rattle.std.specs.Str.{bytes_eq}
use Rattle.htmd_lexical.specs.Characters.{backslash, is_one_of}
use Rattle.htmd_markdown.specs.Addresses.{parentheses}

-- one byte of an address as it is written
abbrev pub written_byte : ℕ → List ℕ
written_byte b = if is_one_of parentheses b then backslash ∷ b ∷ [] else b ∷ []

-- what follows the piece at the text's start; None if the text begins otherwise
abbrev pub StandsBehind : List ℕ → List ℕ → Option (List ℕ) → Type 0
StandsBehind text piece None = (more : List ℕ) → bytes_eq text (piece ++ more) ≡ false
StandsBehind text piece (Some rest) = (more : List ℕ) → bytes_eq text (piece ++ more) ≡ bytes_eq rest more

-- What is known to be missing at the end of a text.
use Rattle.std.specs.Prelude.{◌≡◌, ◌⊎◌, ℕ, ◌≤◌, List, length, None, codes}
use Rattle.htmd_commonmark_reading.specs.RawTags.{through}
use Rattle.htmd_commonmark_reader.specs.Steps.{IsEnd}
use Rattle.htmd_commonmark_reader.specs.declared.raw_tags.Missing.{Missing}

-- so many bytes at the end of a text don't have the signs
abbrev pub IsMissing : List ℕ → List ℕ → ℕ → Type 0
IsMissing signs s n = (e : List ℕ) → IsEnd s e → length e ≤ n → through signs e ≡ None

-- what is known, once the signs were looked for
abbrev pub IsNoted : List ℕ → List ℕ → ℕ → ℕ → Type 0
IsNoted signs s old new = (new ≡ old) ⊎ ((new ≡ length s) × (through signs s ≡ None))

pub record AreMissing (s : List ℕ) (m : Missing) : Type 0 where
  pub comment : IsMissing (codes "-->") s m.comment
  pub instruction : IsMissing (codes "?>") s m.instruction
  pub declaration : IsMissing (codes ">") s m.declaration
  pub section : IsMissing (codes "]]>") s m.section

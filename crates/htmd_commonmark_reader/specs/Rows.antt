-- Rows of tables, cell by cell.
use Rattle.std.specs.Prelude.{ℕ, Bool, false, not, ◌&&◌, ◌==◌, if◌then◌else◌, List, [], ◌∷◌, ◌++◌, map}
use Rattle.std.specs.Prelude.{suc, length, Option, Some, None, String, string_bytes}
use Rattle.htmd_document.specs.declared.document.Alignment.{Alignment}
use Rattle.htmd_lexical.specs.Characters.{backslash, vertical_bar}
use Rattle.htmd_lexical.specs.CharacterClasses.{first_is}
use Rattle.htmd_commonmark_reading.specs.Tables.{split_at_bars, without_blank_last}

-- the beginning up to the first bar that separates cells; the first number is the character before
abbrev pub until_bar : ℕ → List ℕ → List ℕ
until_bar before [] = []
until_bar before (c ∷ s) = if (c == vertical_bar) && not (before == backslash) then [] else c ∷ until_bar c s

-- a cell, and if a bar follows it, those of the rest
abbrev pub with_rest : List ℕ → Bool → List ℕ → List (List ℕ)
with_rest cell more rest = cell ∷ (if more then split_at_bars 0 rest else [])

-- the raw cells of a rest, but for a blank one at its end
abbrev pub raw_cells : Bool → List ℕ → List (List ℕ)
raw_cells more rest = if more then without_blank_last (split_at_bars 0 rest) else []

-- how much is left
abbrev pub rest_size : Bool → List ℕ → ℕ
rest_size more rest = if more then suc (length rest) else 0

-- a backslash before a bar
abbrev pub escapes_bar : List ℕ → Bool
escapes_bar [] = false
escapes_bar (c ∷ s) = (c == backslash) && first_is vertical_bar s

-- the texts of some strings
abbrev pub strings : {Z : Type 0} → List (String Z) → List (List ℕ)
strings cells = map (λ cell. string_bytes cell) cells

-- alignments before others, if those are
abbrev pub all_aligned : List Alignment → Option (List Alignment) → Option (List Alignment)
all_aligned before None = None
all_aligned before (Some more) = Some (before ++ more)

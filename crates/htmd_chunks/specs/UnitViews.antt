-- What the source keeps of units.
use Rattle.std.specs.Prelude.{ℕ, ◌+◌, ◌-◌, nat_le, if◌then◌else◌, List, [], ◌∷◌, length, map, sum}
use Rattle.std.specs.List.{sum_by}
use Rattle.htmd_commonmark.specs.declared.options.DocumentOptions.{DocumentOptions}
use Rattle.htmd_chunks.specs.CodeLines.{line_cost}
use Rattle.htmd_chunks.specs.Words.{Word, words_cost}
use Rattle.htmd_chunks.specs.declared.size.Margin.{Margin}
use Rattle.htmd_chunks.specs.declared.units.Unit.{Unit}

abbrev pub unit_of_lines : Margin → List (List ℕ) → Unit
unit_of_lines m unit = record { count = length unit; bytes = sum_by (line_cost m) unit }

abbrev pub unit_of_words : DocumentOptions → Margin → List Word → Unit
unit_of_words options m unit = record { count = length unit; bytes = words_cost options m unit }

-- a word of these bytes
abbrev pub one_word : ℕ → Unit
one_word bytes = record { count = 1; bytes = bytes }

-- words of these bytes with a space between each two
abbrev pub sentence_bytes : List ℕ → ℕ
sentence_bytes words = sum words + (length words - 1)

-- a sentence of words with these bytes, or each of its words if it is too large
abbrev pub sentence_units : ℕ → List ℕ → List Unit
sentence_units most words =
    if nat_le (sentence_bytes words) most then record { count = length words; bytes = sentence_bytes words } ∷ []
    else map one_word words

-- A text without what is at its ends, and what was cut there.
use Rattle.std.specs.Prelude.{ℕ, ◌-◌, Bool, ◌==◌, List, [], ◌∷◌, length, take, drop, Option, Some, None}
use Rattle.std.specs.List.{prefix_len, suffix_len}
use Rattle.std.specs.Str.{trim_start, trim_end}
use Rattle.htmd_lexical.specs.Characters.{line_feed, space}

-- the text without the bytes at its start that pass
abbrev pub trimmed_start : (ℕ → Bool) → List ℕ → List ℕ
trimmed_start passes s = drop (prefix_len passes s) s

-- the text without the bytes at its end that pass
abbrev pub trimmed_end : (ℕ → Bool) → List ℕ → List ℕ
trimmed_end passes s = take (length s - suffix_len passes s) s

-- the text without them at both ends
abbrev pub trimmed_text : (ℕ → Bool) → List ℕ → List ℕ
trimmed_text passes s = trimmed_end passes (trimmed_start passes s)

-- the bytes at its start that pass
abbrev pub cut_start : (ℕ → Bool) → List ℕ → List ℕ
cut_start passes s = take (prefix_len passes s) s

-- the bytes at its end that pass
abbrev pub cut_end : (ℕ → Bool) → List ℕ → List ℕ
cut_end passes s = drop (length s - suffix_len passes s) s

-- the white space (Unicode's property White_Space) at its start, and at its end
abbrev pub white_space_at_start : List ℕ → List ℕ
white_space_at_start s = take (length s - length (trim_start s)) s

abbrev pub white_space_at_end : List ℕ → List ℕ
white_space_at_end s = drop (length (trim_end s)) s

-- a text that was cut, or nothing if it is empty
abbrev pub some_text : List ℕ → Option (List ℕ)
some_text [] = None
some_text (b ∷ s) = Some (b ∷ s)

abbrev pub is_line_feed : ℕ → Bool
is_line_feed b = b == line_feed

abbrev pub is_space : ℕ → Bool
is_space b = b == space

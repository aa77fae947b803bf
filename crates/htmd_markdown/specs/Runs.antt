-- Runs of one character in a text.
use Rattle.std.specs.Prelude.{ℕ, Bool, not, ◌==◌, max, List, length, map}
use Rattle.std.specs.List.{fold, list_any, slice_split}

-- The runs of a character: what is left where the text is cut at each other character. Between two
-- others stands an empty one.
abbrev pub runs : ℕ → List ℕ → List (List ℕ)
runs character s = slice_split (λ b. not (b == character)) s

-- the length of the longest run
abbrev pub longest_run : ℕ → List ℕ → ℕ
longest_run character s = fold max 0 (map (λ run. length run) (runs character s))

-- some run has exactly this length
abbrev pub has_run : ℕ → ℕ → List ℕ → Bool
has_run character n s = list_any (λ run. length run == n) (runs character s)

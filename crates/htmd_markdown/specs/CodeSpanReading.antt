-- How Markdown reads a code span (CommonMark 0.31.2, 6.1).
use Rattle.std.specs.Prelude.{ℕ, ◌-◌, Bool, false, not, ◌&&◌, ◌||◌, ◌==◌, if◌then◌else◌, List, [], ◌∷◌, length, take}
use Rattle.std.specs.Prelude.{drop, slice_index, Option, Some, None}
use Rattle.std.specs.List.{list_all, position_or_len, prefix_len}
use Rattle.std.specs.Option.{option_map}
use Rattle.htmd_lexical.specs.Characters.{carriage_return, grave_accent, line_feed, space}

abbrev pub is_backquote : ℕ → Bool
is_backquote b = b == grave_accent

-- what comes before the next run of exactly n backquotes; a run that has begun before the text,
-- right after a backquote, is passed over
abbrev pub before_run : ℕ → Bool → List ℕ → Option (List ℕ)
before_run n behind_backquote [] = None
before_run n behind_backquote (b ∷ s) =
    if not behind_backquote && (prefix_len is_backquote (b ∷ s) == n)
    then Some []
    else option_map (λ front. b ∷ front) (before_run n (is_backquote b) s)

-- each line end (a line feed, a carriage return, or both in this order) as one space
abbrev pub line_ends_as_spaces : List ℕ → List ℕ
line_ends_as_spaces [] = []
line_ends_as_spaces (b ∷ s) =
    if (b == carriage_return) && (slice_index s 0 == line_feed)
    then line_ends_as_spaces s
    else (if (b == carriage_return) || (b == line_feed) then space else b) ∷ line_ends_as_spaces s

-- one space goes at each end, if there is one at both and not all are spaces
abbrev pub without_padding : List ℕ → List ℕ
without_padding s =
    if (slice_index s 0 == space) && (slice_index s (length s - 1) == space) && not (list_all (λ b. b == space) s)
    then take (length s - 2) (drop 1 s)
    else s

-- a text from its first backquote on, and how many are there
abbrev pub from_delimiter : List ℕ → List ℕ
from_delimiter s = drop (position_or_len is_backquote s) s

abbrev pub opening_len : List ℕ → ℕ
opening_len s = prefix_len is_backquote (from_delimiter s)

-- The text of the first code span: it begins with a run of backquotes and ends at the next run of
-- exactly as many. Without such a run there is none.
abbrev pub read_span : List ℕ → Option (List ℕ)
read_span s =
    option_map (λ inside. without_padding (line_ends_as_spaces inside))
    (before_run (opening_len s) false (drop (opening_len s) (from_delimiter s)))

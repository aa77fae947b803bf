-- How Markdown reads a fenced code block (CommonMark 0.31.2, 4.5).
use Rattle.std.specs.Prelude.{ℕ, ◌-◌, Bool, true, not, ◌&&◌, ◌||◌, ◌==◌, nat_le, if◌then◌else◌, List, [], ◌∷◌, length}
use Rattle.std.specs.Prelude.{take, drop, slice_index, Option, Some, None}
use Rattle.std.specs.List.{list_all, list_any, position_or_len, prefix_len}
use Rattle.std.specs.Option.{option_map}
use Rattle.htmd_lexical.specs.Characters.{carriage_return, grave_accent, line_feed, space, tab, tilde}

-- a line ends at a line feed, at a carriage return, or at both in this order (CommonMark 0.31.2, 2.1)
abbrev pub is_line_end : ℕ → Bool
is_line_end b = (b == line_feed) || (b == carriage_return)

abbrev pub first_line : List ℕ → List ℕ
first_line s = take (position_or_len is_line_end s) s

-- what follows a line end
abbrev pub behind_line_end : List ℕ → List ℕ
behind_line_end [] = []
behind_line_end (b ∷ s) = if (b == carriage_return) && (slice_index s 0 == line_feed) then drop 1 s else s

abbrev pub behind_first_line : List ℕ → List ℕ
behind_first_line s = behind_line_end (drop (position_or_len is_line_end s) s)

-- how many times the symbol stands at the start
abbrev pub symbols_at_start : ℕ → List ℕ → ℕ
symbols_at_start symbol s = prefix_len (λ b. b == symbol) s

abbrev pub behind_symbols : ℕ → List ℕ → List ℕ
behind_symbols symbol s = drop (symbols_at_start symbol s) s

-- the line begins with a fence: three or more tildes, or three or more backquotes with none in the
-- info string after them
abbrev pub is_opening : List ℕ → Bool
is_opening line =
    nat_le 3 (symbols_at_start tilde line)
    || (nat_le 3 (symbols_at_start grave_accent line)
    && not (list_any (λ b. b == grave_accent) (behind_symbols grave_accent line)))

-- a line after the spaces at its start
abbrev pub unindented_line : List ℕ → List ℕ
unindented_line line = behind_symbols space line

-- the line closes a fence of n symbols: it is indented by at most three spaces, has as many of the
-- symbol or more, and only spaces or tabs after them
abbrev pub is_closing : ℕ → ℕ → List ℕ → Bool
is_closing symbol n line =
    nat_le (symbols_at_start space line) 3
    && nat_le n (symbols_at_start symbol (unindented_line line))
    && list_all (λ b. (b == space) || (b == tab)) (behind_symbols symbol (unindented_line line))

-- what comes before the first line that closes the fence, the end of the line before it included
abbrev pub before_closing : ℕ → ℕ → Bool → List ℕ → Option (List ℕ)
before_closing symbol n begins_line [] = None
before_closing symbol n begins_line (b ∷ s) =
    if begins_line && is_closing symbol n (first_line (b ∷ s))
    then Some []
    else option_map (λ front. b ∷ front) (before_closing symbol n (is_line_end b) s)

-- The content of the fenced code block that begins the text, without the line feed or carriage return
-- right before the closing line. A fence that nothing closes has none.
abbrev pub read_fence : List ℕ → Option (List ℕ)
read_fence s =
    if is_opening (first_line s)
    then option_map (λ front. take (length front - 1) front)
    (before_closing (slice_index s 0) (symbols_at_start (slice_index s 0) s) true (behind_first_line s))
    else None

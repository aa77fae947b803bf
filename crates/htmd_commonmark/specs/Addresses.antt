-- Addresses and titles of links and images (CommonMark 0.31.2, 6.3), and autolinks (6.5).
use Rattle.std.specs.Prelude.{ℕ, Bool, true, not, ◌&&◌, ◌||◌, ◌==◌, nat_le, if◌then◌else◌, List, [], ◌∷◌, ◌++◌}
use Rattle.std.specs.Prelude.{slice_index, slice_get, codes, Option, Some, None}
use Rattle.std.specs.Char.{is_ascii_alphabetic, is_ascii_alphanumeric, is_ascii_punctuation}
use Rattle.std.specs.List.{list_any, prefix_len}
use Rattle.htmd_lexical.specs.Characters.{space, ampersand, colon, backslash, is_one_of}
use Rattle.htmd_lexical.specs.CharacterClasses.{is_empty}
use Rattle.htmd_commonmark.specs.References.{is_reference, holds_reference}

-- ---- escapes

-- Before punctuation and at the end a backslash escapes.
abbrev pub may_escape : Option ℕ → Bool
may_escape None = true
may_escape (Some c) = is_ascii_punctuation c

-- one of the signs, or a backslash that would escape
abbrev pub is_escaped : List ℕ → ℕ → List ℕ → Bool
is_escaped signs b s = is_one_of signs b || ((b == backslash) && may_escape (slice_get s 0))

-- what stands for a character before these
abbrev pub piece : List ℕ → ℕ → List ℕ → List ℕ
piece signs b s =
    if is_escaped signs b s
    then backslash ∷ b ∷ []
    else (if (b == ampersand) && is_reference s then codes "&amp;" else b ∷ [])

-- The text with a backslash before each of the signs, and before each backslash that would escape; the `&` of what
-- would be a character reference stands as one.
abbrev pub escaped_in : List ℕ → List ℕ → List ℕ
escaped_in signs [] = []
escaped_in signs (b ∷ s) = piece signs b s ++ escaped_in signs s

-- ---- addresses and titles

-- a space, or a control: U+0000 to U+001F and U+007F
abbrev pub is_space_or_control : ℕ → Bool
is_space_or_control b = nat_le b space || (b == 0x7F)

-- An address that is empty or has a space or a control stands between `<` and `>`.
abbrev pub needs_brackets : List ℕ → Bool
needs_brackets s = is_empty s || list_any is_space_or_control s

abbrev pub destination : List ℕ → List ℕ
destination s =
    if needs_brackets s
    then codes "<" ++ escaped_in (codes "<>") s ++ codes ">"
    else escaped_in (codes "()<>") s

-- a space and the title, if there is one
abbrev pub title : Option (List ℕ) → List ℕ
title None = []
title (Some s) = codes " \"" ++ escaped_in (codes "\"") s ++ codes "\""

-- ---- autolinks

-- a letter, digit, `+`, `.` or `-`
abbrev pub is_scheme_character : ℕ → Bool
is_scheme_character b = is_ascii_alphanumeric b || is_one_of (codes "+.-") b

-- a scheme: a letter, 1 to 31 more of these characters, and a colon
abbrev pub begins_with_scheme : List ℕ → Bool
begins_with_scheme s =
    let len = prefix_len is_scheme_character s in
    is_ascii_alphabetic (slice_index s 0) && nat_le 2 len && nat_le len 32 && (slice_index s len == colon)

-- no autolink has a space, a control, `<` or `>`
abbrev pub is_barred : ℕ → Bool
is_barred b = is_space_or_control b || is_one_of (codes "<>") b

-- the address can stand between `<` and `>` as it is
abbrev pub is_autolink : List ℕ → Bool
is_autolink s = begins_with_scheme s && not (list_any is_barred s) && not (holds_reference s)

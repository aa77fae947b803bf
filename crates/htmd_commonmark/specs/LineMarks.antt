-- The character that would make a block of the line that a text begins.
use Rattle.std.specs.Prelude.{ℕ, ◌+◌, Bool, true, ◌&&◌, ◌||◌, ◌==◌, nat_le, if◌then◌else◌, List, [], ◌∷◌, drop}
use Rattle.std.specs.Prelude.{slice_index, codes, Option, Some, None}
use Rattle.std.specs.List.{list_all, prefix_len}
use Rattle.std.specs.Char.{is_ascii_digit}
use Rattle.htmd_lexical.specs.Characters.{line_feed, space, hyphen, colon, is_one_of}
use Rattle.htmd_lexical.specs.CharacterClasses.{first_is}
use Rattle.htmd_text.specs.ListMarkers.{number_signs}

-- Beside a text is no character, or a line feed.
abbrev pub is_line_end : Option ℕ → Bool
is_line_end None = true
is_line_end (Some c) = c == line_feed

-- what follows a marker that is one: a space, or the line's end
abbrev pub ends_marker : List ℕ → Option ℕ → Bool
ends_marker [] after = is_line_end after
ends_marker (b ∷ s) after = b == space

-- a marker of a bullet list (CommonMark 0.31.2, 5.2)
abbrev pub is_bullet : ℕ → List ℕ → Option ℕ → Bool
is_bullet b s after = is_one_of (codes "-+") b && ends_marker s after

-- a line of `-`, as under a heading (4.3) and a table's header (GitHub Flavored Markdown 0.29, 4.10)
abbrev pub is_dashes : ℕ → List ℕ → Bool
is_dashes b s = (b == hyphen) && list_all (is_one_of (codes "-:| ")) s

-- the marker of a heading, one to six `#` (CommonMark 0.31.2, 4.2)
abbrev pub is_heading_marker : List ℕ → Option ℕ → Bool
is_heading_marker s after =
    let signs = number_signs s in
    nat_le 1 signs && nat_le signs 6 && ends_marker (drop signs s) after

-- The first character begins a block, underlines a heading, or begins a table's line of dashes.
abbrev pub begins_block : ℕ → List ℕ → Option ℕ → Bool
begins_block b s after =
    is_one_of (codes "=>|") b
    || is_bullet b s after
    || is_dashes b s
    || ((b == colon) && first_is hyphen s)
    || is_heading_marker (b ∷ s) after

-- the place of the `.` or `)` of an ordered list's marker, after one to nine digits (5.2)
abbrev pub number_mark : List ℕ → Option ℕ → Option ℕ
number_mark s after =
    let digits = prefix_len is_ascii_digit s in
    if nat_le 1 digits && nat_le digits 9 && is_one_of (codes ".)") (slice_index s digits)
    && ends_marker (drop (digits + 1) s) after
    then Some digits
    else None

-- the place of the character that would make a block of a line that begins with this text
abbrev pub line_mark : List ℕ → Option ℕ → Option ℕ
line_mark [] after = None
line_mark (b ∷ s) after = if begins_block b s after then Some 0 else number_mark (b ∷ s) after

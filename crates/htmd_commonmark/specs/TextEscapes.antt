-- A text with a backslash before each character that a reader would take for more than itself (CommonMark 0.31.2, 2.4).
use Rattle.std.specs.Prelude.{ℕ, ◌+◌, Bool, true, false, not, ◌&&◌, ◌||◌, ◌==◌, List, length, take, drop}
use Rattle.std.specs.Prelude.{slice_index, slice_get, codes, Option, Some, None}
use Rattle.std.specs.Option.{option_or}
use Rattle.std.specs.Char.{is_ascii_punctuation}
use Rattle.htmd_lexical.specs.Characters.{line_feed, space, exclamation_mark, ampersand, less_than_sign}
use Rattle.htmd_lexical.specs.Characters.{left_square_bracket, backslash, right_square_bracket, underscore, is_one_of}
use Rattle.htmd_text.specs.EscapedPlaces.{with_backslashes, is_place}
use Rattle.htmd_text.specs.Trims.{trimmed_start, trimmed_end}
pub use Rattle.htmd_commonmark.specs.declared.text_escape.Place.{Place}
use Rattle.htmd_commonmark.specs.CharacterKinds.{first_character, last_character, is_word}
use Rattle.htmd_commonmark.specs.References.{is_reference}
use Rattle.htmd_commonmark.specs.LineMarks.{line_mark}

-- ---- what is beside a place of the text, and at its ends beside the text

abbrev pub next_byte : Place → List ℕ → ℕ → Option ℕ
next_byte place s k = option_or (slice_get s (k + 1)) place.after

abbrev pub is_underscore : ℕ → Bool
is_underscore b = b == underscore

-- the character before the underscores that end the text's front, and the one after those that begin its rest
abbrev pub character_before : Place → List ℕ → Option ℕ
character_before place front = option_or (last_character (trimmed_end is_underscore front)) place.before

abbrev pub character_after : Place → List ℕ → Option ℕ
character_after place rest = option_or (first_character (trimmed_start is_underscore rest)) place.after

abbrev pub is_of_word : Option ℕ → Bool
is_of_word None = false
is_of_word (Some c) = is_word c

-- the row of underscores there stands between characters of words
abbrev pub is_in_word : Place → List ℕ → ℕ → Bool
is_in_word place s k =
    is_of_word (character_before place (take k s)) && is_of_word (character_after place (drop k s))

-- ---- which places get a backslash

-- A backslash is itself but before punctuation and at a line's end.
abbrev pub may_be_escaped : Option ℕ → Bool
may_be_escaped None = true
may_be_escaped (Some c) = (c == line_feed) || is_ascii_punctuation c

-- A `<` is itself at a line's end and before a space.
abbrev pub may_be_in_tag : Option ℕ → Bool
may_be_in_tag None = false
may_be_in_tag (Some c) = not ((c == space) || (c == line_feed))

abbrev pub is_bracket : Option ℕ → Bool
is_bracket None = false
is_bracket (Some c) = c == left_square_bracket

-- the places that get a backslash wherever the text stands in a line
abbrev pub is_inline_mark : Place → List ℕ → ℕ → Bool
is_inline_mark place s k =
    let b = slice_index s k in
    is_one_of (codes "`*[~") b
    || ((b == right_square_bracket) && place.in_brackets)
    || ((b == backslash) && may_be_escaped (next_byte place s k))
    || ((b == underscore) && not (is_in_word place s k))
    || ((b == less_than_sign) && may_be_in_tag (next_byte place s k))
    || ((b == ampersand) && is_reference (drop (k + 1) s))
    || ((b == exclamation_mark) && (k + 1 == length s) && is_bracket place.after)
    || (is_one_of (codes "^") b && (k == 0) && is_bracket place.before)

-- the places that get a backslash
abbrev pub is_marked : Place → List ℕ → ℕ → Bool
is_marked place s k = is_inline_mark place s k || (place.begins_line && is_place (line_mark s place.after) k)

-- the text so that a reader takes each character as itself
abbrev pub escaped : Place → List ℕ → List ℕ
escaped place s = with_backslashes (is_marked place s) 0 s

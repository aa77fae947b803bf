-- The texts of a page that show.
use Rattle.std.specs.Prelude.{ℕ, Bool, ◌||◌, ◌==◌, not, List, encode_utf8_all, filter}
use Rattle.std.specs.Str.{chars}
use Rattle.htmd_lexical.specs.Characters.{null}
use Rattle.htmd_shown.specs.Spaces.{is_white}

abbrev pub byte_order_mark : ℕ
byte_order_mark = 0xFEFF

-- U+0000 and U+FEFF never show
abbrev pub is_shown : ℕ → Bool
is_shown c = not ((c == null) || (c == byte_order_mark))

abbrev pub shown_text : List ℕ → List ℕ
shown_text s = encode_utf8_all (filter is_shown (chars s))

-- white space, or what never shows
abbrev pub is_blank_character : ℕ → Bool
is_blank_character c = is_white c || not (is_shown c)

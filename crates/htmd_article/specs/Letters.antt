-- Letters, white space and the signs of permalinks.
use Rattle.std.specs.Prelude.{ℕ, Bool, not, ◌||◌, ◌==◌, nat_lt, if◌then◌else◌}
use Rattle.std.specs.Char.{is_ascii_alphanumeric}
use Rattle.htmd_lexical.specs.Numbers.{is_between}
use Rattle.htmd_lexical.specs.WhiteSpace.{is_ascii_white_space}

-- above ASCII: punctuation, symbols and private characters, which are no letters
abbrev pub is_mark : ℕ → Bool
is_mark c =
    nat_lt c 0xC0 || (c == 0xD7) || (c == 0xF7) || is_between 0x2000 0x2BFF c || is_between 0x3000 0x3003 c
    || is_between 0xE000 0xF8FF c

-- a letter or a digit, of any script
abbrev pub is_letter : ℕ → Bool
is_letter c = if nat_lt c 0x80 then is_ascii_alphanumeric c else not (is_mark c)

abbrev pub is_seen : ℕ → Bool
is_seen c = not (is_ascii_white_space c)

-- what links to a heading itself show: `#`, `§`, `¶`, a chain of an icon font and one of Unicode
abbrev pub is_sign : ℕ → Bool
is_sign c = (c == 0x23) || (c == 0xA7) || (c == 0xB6) || (c == 0xF0C1) || (c == 0x1F517)

-- The characters at the ends of a text, and what a character is to the marks beside it (CommonMark 0.31.2, 2.1, 6.2).
use Rattle.std.specs.Prelude.{ℕ, Bool, true, false, not, ◌||◌, List, Option, reverse, slice_get}
use Rattle.std.specs.Char.{is_ascii_punctuation, is_ascii_whitespace}
use Rattle.std.specs.Str.{chars}
use Rattle.unicode.specs.declared.properties.GeneralCategory.{GeneralCategory}
use Rattle.unicode.specs.declared.properties.GeneralCategory.TheVariants.{SpaceSeparator}
use Rattle.unicode.specs.declared.properties.GeneralCategoryGroup.TheVariants.{Punctuation, Symbol}
use Rattle.unicode.specs.GeneralCategory.{general_category}
use Rattle.unicode.specs.GeneralCategoryGroup.{in_group}

-- the first and the last character of a text, none of an empty one
abbrev pub first_character : List ℕ → Option ℕ
first_character s = slice_get (chars s) 0

abbrev pub last_character : List ℕ → Option ℕ
last_character s = slice_get (reverse (chars s)) 0

-- the general category Zs (Unicode, 4.5)
abbrev pub is_space_separator : GeneralCategory → Bool
is_space_separator SpaceSeparator = true
is_space_separator _ = false

-- white space: tab, line feed, form feed, carriage return, and spaces of any width
abbrev pub is_space : ℕ → Bool
is_space c = is_ascii_whitespace c || is_space_separator (general_category c)

-- Beside it a mark can stand in the eyes of any reader: no white space, punctuation or symbol.
abbrev pub is_word : ℕ → Bool
is_word c =
    not (is_space c || is_ascii_punctuation c || in_group Punctuation (general_category c)
    || in_group Symbol (general_category c))

-- white space or punctuation to all readers
abbrev pub is_apart : ℕ → Bool
is_apart c = is_space c || is_ascii_punctuation c || in_group Punctuation (general_category c)

-- The beginnings of a line that CommonMark reads as a heading or as an ordered list item.
use Rattle.std.specs.Prelude.{ℕ, ◌+◌, ◌-◌, Bool, true, false, ◌&&◌, ◌==◌, nat_lt, if◌then◌else◌, List, length, drop}
use Rattle.std.specs.Prelude.{slice_index, encode_utf8_all, take_while, Option, Some, None}
use Rattle.std.specs.List.{prefix_len}
use Rattle.std.specs.Str.{chars}
use Rattle.unicode.specs.declared.properties.GeneralCategory.{GeneralCategory}
use Rattle.unicode.specs.declared.properties.GeneralCategory.TheVariants.{DecimalNumber, LetterNumber, OtherNumber}
use Rattle.unicode.specs.GeneralCategory.{general_category}
use Rattle.htmd_lexical.specs.Characters.{space, number_sign, full_stop}

-- how many `#` the text begins with
abbrev pub number_signs : List ℕ → ℕ
number_signs s = prefix_len (λ b. b == number_sign) s

-- The text begins with one or more `#` and then a space, as an ATX heading of any level does
-- (CommonMark 0.31.2, 4.2, where the level ends at six).
abbrev pub is_atx_heading : List ℕ → Bool
is_atx_heading s = nat_lt 0 (number_signs s) && (slice_index s (number_signs s) == space)

-- the general categories Nd, Nl and No (Unicode, 4.5)
abbrev pub is_number : GeneralCategory → Bool
is_number DecimalNumber = true
is_number LetterNumber = true
is_number OtherNumber = true
is_number _ = false

-- a numeric character
abbrev pub is_numeric : ℕ → Bool
is_numeric c = is_number (general_category c)

-- how many bytes the numeric characters take with which the text begins
abbrev pub numerals_len : List ℕ → ℕ
numerals_len s = length (encode_utf8_all (take_while is_numeric (chars s)))

-- how many dots follow them
abbrev pub dots_len : List ℕ → ℕ
dots_len s = prefix_len (λ b. b == full_stop) (drop (numerals_len s) s)

-- Where the text begins with one or more numeric characters, one or more dots and a space, the
-- place of the last of these dots. An ordered list item begins so, with ASCII digits and one dot
-- (CommonMark 0.31.2, 5.2).
abbrev pub ordered_item_dot : List ℕ → Option ℕ
ordered_item_dot s =
    if nat_lt 0 (numerals_len s) && nat_lt 0 (dots_len s) && (slice_index s (numerals_len s + dots_len s) == space)
    then Some (numerals_len s + dots_len s - 1)
    else None

-- Character references (HTML Standard, 13.2.5.72 to 13.2.5.80). A reference begins with `&`; what follows that is
-- given.
use Rattle.std.specs.Prelude.{ℕ, suc, ◌+◌, ◌-◌, Bool, false, ◌&&◌, ◌||◌, ◌==◌, nat_lt, if◌then◌else◌, List, [], ◌∷◌}
use Rattle.std.specs.Prelude.{length, drop, slice_index, Option, Some, None, codes}
use Rattle.std.specs.Char.{encode_utf8, is_ascii_digit, is_ascii_hexdigit, is_ascii_alphanumeric}
use Rattle.htmd_lexical.specs.Characters.{number_sign, ampersand, semicolon, equals_sign}
use Rattle.htmd_lexical.specs.CharacterClasses.{is_empty, first_is, begins_in_any_case, leading_run}
use Rattle.htmd_lexical.specs.CharacterClasses.{behind_run}
use Rattle.htmd_lexical.specs.Numbers.{number, is_between}
use Rattle.htmd_html5_tokens.specs.NamedReferences.{NamedReference, named, longest_old}

-- what begins at a place: how many of the bytes that follow belong to it, and the characters that it stands for
pub record Piece : Type 0 where
  pub following : ℕ
  pub characters : List ℕ

-- `&` that begins no reference
abbrev pub ampersand_itself : Piece
ampersand_itself = record { following = 0; characters = ampersand ∷ [] }

-- ---- references by number (13.2.5.80)

abbrev pub replacement_character : ℕ
replacement_character = 0xFFFD

-- what the numbers 0x80 to 0x9F stand for, in order: the characters of windows-1252
abbrev pub windows_characters : List ℕ
windows_characters =
    0x20AC ∷ 0x81 ∷ 0x201A ∷ 0x192 ∷ 0x201E ∷ 0x2026 ∷ 0x2020 ∷ 0x2021 ∷ 0x2C6 ∷ 0x2030 ∷ 0x160
    ∷ 0x2039 ∷ 0x152 ∷ 0x8D ∷ 0x17D ∷ 0x8F ∷ 0x90 ∷ 0x2018 ∷ 0x2019 ∷ 0x201C ∷ 0x201D ∷ 0x2022
    ∷ 0x2013 ∷ 0x2014 ∷ 0x2DC ∷ 0x2122 ∷ 0x161 ∷ 0x203A ∷ 0x153 ∷ 0x9D ∷ 0x17E ∷ 0x178 ∷ []

-- numbers that stand for no character: 0, those above U+10FFFF, and surrogates
abbrev pub is_no_character : ℕ → Bool
is_no_character n = n == 0 || nat_lt 0x10_FFFF n || is_between 0xD800 0xDFFF n

-- the character of a number
unfoldable pub character_numbered : ℕ → ℕ
character_numbered n =
    if is_no_character n then replacement_character
    else if is_between 0x80 0x9F n then slice_index windows_characters (n - 0x80)
    else n

-- one `;` may end a number
abbrev pub semicolon_len : List ℕ → ℕ
semicolon_len s = if first_is semicolon s then 1 else 0

-- digits, at least one, after this many bytes (13.2.5.76 to 13.2.5.79)
abbrev pub numbered : (ℕ → Bool) → ℕ → ℕ → List ℕ → Piece
numbered is_digit base from s =
    if is_empty (leading_run is_digit s) then ampersand_itself
    else record {
      following = from + length (leading_run is_digit s) + semicolon_len (behind_run is_digit s);
      characters = encode_utf8 (character_numbered (number base 0 (leading_run is_digit s)));
    }

-- after `&#`: decimal digits, or `x` or `X` and hexadecimal digits (13.2.5.75)
abbrev pub after_number_sign : List ℕ → Piece
after_number_sign s =
    if begins_in_any_case (codes "x") s
    then numbered is_ascii_hexdigit 16 2 (drop 1 s)
    else numbered is_ascii_digit 10 1 s

-- ---- references by name (13.2.5.73)

-- in the value of an attribute a name without `;` isn't a reference before `=`, a letter or a digit
abbrev pub goes_on : List ℕ → Bool
goes_on [] = false
goes_on (b ∷ s) = b == equals_sign || is_ascii_alphanumeric b

-- the name at the beginning of a text that may stand without `;`, if there is one
abbrev pub old_reference : Bool → Option NamedReference → List ℕ → Piece
old_reference in_value None s = ampersand_itself
old_reference in_value (Some r) s =
    if in_value && goes_on (drop (length r.name) s) then ampersand_itself
    else record { following = length r.name; characters = r.characters }

-- a name with `;`, which this many bytes take, and if there is none a name without
abbrev pub reference_or : ℕ → Option (List ℕ) → Piece → Piece
reference_or n None other = other
reference_or n (Some characters) other = record { following = n; characters = characters }

-- after `&`: No name goes on after `;`, so one that ends there is the longest, and it is all letters and digits before
-- that. Else a name that may stand without `;` counts.
abbrev pub reference_by_name : Bool → List ℕ → Piece
reference_by_name in_value s =
    if first_is semicolon (behind_run is_ascii_alphanumeric s)
    then reference_or (suc (length (leading_run is_ascii_alphanumeric s)))
    (named (leading_run is_ascii_alphanumeric s)) (old_reference in_value (longest_old s) s)
    else old_reference in_value (longest_old s) s

-- after `&` (13.2.5.72)
abbrev pub after_ampersand : Bool → List ℕ → Piece
after_ampersand in_value s =
    if first_is number_sign s then after_number_sign (drop 1 s) else reference_by_name in_value s

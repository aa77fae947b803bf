-- What is a character reference to some reader (CommonMark 0.31.2, 2.5), whatever its name or number.
use Rattle.std.specs.Prelude.{ℕ, Bool, false, not, ◌&&◌, ◌||◌, ◌==◌, if◌then◌else◌, List, [], ◌∷◌, codes, drop}
use Rattle.std.specs.Prelude.{slice_index, find, Option, Some, None}
use Rattle.std.specs.Char.{is_ascii_alphabetic, is_ascii_alphanumeric, is_ascii_digit, is_ascii_hexdigit}
use Rattle.htmd_lexical.specs.Characters.{ampersand, number_sign, semicolon, is_one_of}
use Rattle.htmd_lexical.specs.CharacterClasses.{first_is}

abbrev pub is_semicolon : Option ℕ → Bool
is_semicolon None = false
is_semicolon (Some b) = b == semicolon

-- such characters or none, and a semicolon
abbrev pub ends_behind : (ℕ → Bool) → List ℕ → Bool
ends_behind passes s = is_semicolon (find (λ b. not (passes b)) s)

-- one or more such characters, and a semicolon
abbrev pub is_run : (ℕ → Bool) → List ℕ → Bool
is_run passes s = not (first_is semicolon s) && ends_behind passes s

-- after `&#`: decimal digits, or `x` or `X` and hexadecimal digits
abbrev pub is_number : List ℕ → Bool
is_number s =
    if is_one_of (codes "xX") (slice_index s 0) then is_run is_ascii_hexdigit (drop 1 s) else is_run is_ascii_digit s

-- after an `&`: a number, or a letter and letters or digits, and a semicolon
abbrev pub is_reference : List ℕ → Bool
is_reference [] = false
is_reference (b ∷ s) =
    if b == number_sign
    then is_number s
    else is_ascii_alphabetic b && ends_behind is_ascii_alphanumeric s

-- the text begins with one
abbrev pub begins_reference : List ℕ → Bool
begins_reference [] = false
begins_reference (b ∷ s) = (b == ampersand) && is_reference s

-- the text has one
abbrev pub holds_reference : List ℕ → Bool
holds_reference [] = false
holds_reference (b ∷ s) = begins_reference (b ∷ s) || holds_reference s

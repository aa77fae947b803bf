-- What is written for a character of a text and for a byte of an address.
use Rattle.std.specs.Prelude.{ℕ, ◌/◌, ◌%◌, if◌then◌else◌, List, [], ◌∷◌, ◌++◌, codes}
use Rattle.std.specs.Char.{encode_utf8, is_ascii}
use Rattle.htmd_commonmark_reading.specs.Rendering.{escaped_byte, hexadecimal_digit}

abbrev pub escaped_char : ℕ → List ℕ
escaped_char c = if is_ascii c then escaped_byte c else encode_utf8 c

abbrev pub percent : ℕ → List ℕ
percent b = codes "%" ++ hexadecimal_digit (b / 16) ∷ hexadecimal_digit (b % 16) ∷ []

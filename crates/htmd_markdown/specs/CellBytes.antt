-- Cells byte by byte, as the code goes through them; only the contracts of private functions cite it.
use Rattle.std.specs.Prelude.{◌≡◌, ℕ, ◌<◌, Bool, not, ◌&&◌, List, [], ◌∷◌, nat_le, nat_lt, count_by, min, map}
use Rattle.htmd_lexical.specs.Characters.{vertical_bar}
use Rattle.htmd_markdown.specs.Tables.{in_cell, cell_width}

-- a number as far as a `usize` goes
abbrev pub held : ℕ → ℕ
held n = min n 0xFFFF_FFFF_FFFF_FFFF

abbrev pub held_widths : List (List ℕ) → List ℕ
held_widths cells = map held (map cell_width cells)

abbrev pub bar : List ℕ
bar = vertical_bar ∷ []

-- the byte alone
abbrev pub itself : ℕ → List ℕ
itself b = b ∷ []

-- the byte is ASCII, and these bytes stand for it
pub record IsReplaced (b : ℕ) (instead : List ℕ) : Type 0 where
  pub ascii : b < 128
  pub text : in_cell b ≡ instead

-- the byte begins a character of UTF-8 (RFC 3629, 3)
abbrev pub begins_character : ℕ → Bool
begins_character b = not (nat_le 0x80 b && nat_lt b 0xC0)

-- how many characters begin in what stands for a byte of a cell
abbrev pub byte_width : ℕ → ℕ
byte_width b = count_by begins_character (in_cell b)

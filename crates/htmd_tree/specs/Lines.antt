-- Lines and columns of a text. Lines end with a line feed, a carriage return and a line feed, or a carriage return.
use Rattle.std.specs.Prelude.{ℕ, zero, suc, ◌+◌, Bool, false, not, ◌&&◌, ◌||◌, ◌==◌, nat_le, nat_lt}
use Rattle.std.specs.Prelude.{if◌then◌else◌, List, [], ◌∷◌, count_by}
use Rattle.htmd_lexical.specs.Characters.{line_feed, carriage_return}
use Rattle.htmd_lexical.specs.CharacterClasses.{first_is}

-- a line ends with the first byte: a line feed, or a carriage return that no line feed follows
abbrev pub ends_line : List ℕ → Bool
ends_line [] = false
ends_line (b ∷ s) = (b == line_feed) || ((b == carriage_return) && not (first_is line_feed s))

-- how many lines end within the first n bytes
abbrev pub lines_ended : ℕ → List ℕ → ℕ
lines_ended zero s = 0
lines_ended (suc n) [] = 0
lines_ended (suc n) (b ∷ s) = (if ends_line (b ∷ s) then 1 else 0) + lines_ended n s

-- those of the first n bytes after which no line ends: what comes before a place in its line
abbrev pub line_front : ℕ → List ℕ → List ℕ
line_front zero s = []
line_front (suc n) [] = []
line_front (suc n) (b ∷ s) =
    if ends_line (b ∷ s) || nat_lt 0 (lines_ended n s) then line_front n s else b ∷ line_front n s

-- a character begins with this byte (RFC 3629, 3)
abbrev pub begins_character : ℕ → Bool
begins_character b = not (nat_le 0x80 b && nat_lt b 0xC0)

-- how many characters begin there
abbrev pub characters : List ℕ → ℕ
characters s = count_by begins_character s

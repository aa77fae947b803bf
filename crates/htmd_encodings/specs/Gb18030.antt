-- gb18030, and gbk, which has the same decoder: the Encoding Standard, 10.2.1, "gb18030 decoder".
use Rattle.std.specs.Prelude.{ℕ, ◌+◌, ◌-◌, ◌*◌, nat_lt, Bool, ◌&&◌, ◌||◌, ◌==◌, if◌then◌else◌, List, [], ◌∷◌, ◌++◌}
use Rattle.std.specs.Char.{is_ascii}
use Rattle.htmd_lexical.specs.Numbers.{is_between}
use Rattle.htmd_encodings.specs.declared.indexes.gb18030_first.TheConstants.{GB18030_FIRST}
use Rattle.htmd_encodings.specs.declared.indexes.gb18030_ranges.TheConstants.{GB18030_RANGES}
use Rattle.htmd_encodings.specs.declared.indexes.gb18030_rest.TheConstants.{GB18030_REST}
use Rattle.htmd_encodings.specs.declared.sequences.Sequence.{Sequence}
use Rattle.htmd_encodings.specs.Sequences.{character_at, error, pair, reads}

-- ---- two bytes

-- the character of two bytes
abbrev pub character : ℕ → ℕ → ℕ
character lead b =
    if is_between 0x40 0x7E b || is_between 0x80 0xFE b
    then character_at (GB18030_FIRST ++ GB18030_REST)
    ((lead - 0x81) * 190 + (b - (if nat_lt b 0x7F then 0x40 else 0x41)))
    else 0xFFFD

-- ---- four bytes

-- the pointer of four bytes
abbrev pub pointer_of : ℕ → ℕ → ℕ → ℕ → ℕ
pointer_of first second third b =
    (first - 0x81) * 12600 + (second - 0x30) * 1260 + (third - 0x81) * 10 + (b - 0x30)

-- the last of the ranges, which rise, that begins no later than the pointer
abbrev pub range_of : ℕ × ℕ → List (ℕ × ℕ) → ℕ → ℕ × ℕ
range_of found [] pointer = found
range_of found (range ∷ ranges) pointer = if nat_lt pointer range.0 then found else range_of range ranges pointer

abbrev pub in_range : ℕ × ℕ → ℕ → ℕ
in_range range pointer = range.1 + (pointer - range.0)

-- a pointer without a character
abbrev pub is_unused : ℕ → Bool
is_unused pointer = (nat_lt 39419 pointer && nat_lt pointer 189000) || nat_lt 1237575 pointer

-- the character of a pointer, or U+FFFD if there is none (5, "index gb18030 ranges code point")
abbrev pub by_ranges : ℕ → ℕ
by_ranges pointer =
    if is_unused pointer then 0xFFFD
    else if pointer == 7457 then 0xE7C7
    else in_range (range_of (0, 0x80) GB18030_RANGES pointer) pointer

-- ---- the decoder

-- after a lead byte, a digit and a lead byte: all but the first are given back if no digit follows
abbrev pub after_three : ℕ → ℕ → ℕ → List ℕ → Sequence
after_three first second third [] = error 2
after_three first second third (b ∷ s) =
    if is_between 0x30 0x39 b then reads (by_ranges (pointer_of first second third b)) 3 else error 0

-- after a lead byte and a digit, which is given back if no lead byte follows
abbrev pub after_two : ℕ → ℕ → List ℕ → Sequence
after_two first second [] = error 1
after_two first second (b ∷ s) = if is_between 0x81 0xFE b then after_three first second b s else error 0

-- after a lead byte
abbrev pub after_lead : ℕ → List ℕ → Sequence
after_lead lead [] = error 0
after_lead lead (b ∷ s) = if is_between 0x30 0x39 b then after_two lead b s else pair (character lead b) b

abbrev pub sequence_of : ℕ → List ℕ → Sequence
sequence_of b s =
    if is_ascii b then reads b 0
    else if b == 0x80 then reads 0x20AC 0
    else if is_between 0x81 0xFE b then after_lead b s
    else error 0

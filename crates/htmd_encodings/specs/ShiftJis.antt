-- Shift_JIS: the Encoding Standard, 12.3.1, "Shift_JIS decoder".
use Rattle.std.specs.Prelude.{ℕ, ◌+◌, ◌-◌, ◌*◌, nat_lt, nat_le, Bool, ◌||◌, if◌then◌else◌, List, [], ◌∷◌}
use Rattle.htmd_lexical.specs.Numbers.{is_between}
use Rattle.htmd_encodings.specs.declared.indexes.jis0208.TheConstants.{JIS0208}
use Rattle.htmd_encodings.specs.declared.sequences.Sequence.{Sequence}
use Rattle.htmd_encodings.specs.Sequences.{character_at, error, pair, reads}

-- the pointer of two bytes
abbrev pub pointer_of : ℕ → ℕ → ℕ
pointer_of lead b =
    (lead - (if nat_lt lead 0xA0 then 0x81 else 0xC1)) * 188 + (b - (if nat_lt b 0x7F then 0x40 else 0x41))

-- the character of a pointer; some are for private use
abbrev pub is_for_private_use : ℕ → Bool
is_for_private_use pointer = is_between 8836 10715 pointer

abbrev pub by_pointer : ℕ → ℕ
by_pointer pointer =
    if is_for_private_use pointer then 0xE000 - 8836 + pointer else character_at JIS0208 pointer

-- the character of two bytes
abbrev pub character : ℕ → ℕ → ℕ
character lead b =
    if is_between 0x40 0x7E b || is_between 0x80 0xFC b then by_pointer (pointer_of lead b) else 0xFFFD

-- after a lead byte
abbrev pub after_lead : ℕ → List ℕ → Sequence
after_lead lead [] = error 0
after_lead lead (b ∷ s) = pair (character lead b) b

abbrev pub sequence_of : ℕ → List ℕ → Sequence
sequence_of b s =
    if nat_le b 0x80 then reads b 0
    else if is_between 0xA1 0xDF b then reads (0xFF61 - 0xA1 + b) 0
    else if is_between 0x81 0x9F b || is_between 0xE0 0xFC b then after_lead b s
    else error 0

-- Big5: the Encoding Standard, 11.1.1, "Big5 decoder".
use Rattle.std.specs.Prelude.{ℕ, ◌+◌, ◌-◌, ◌*◌, nat_lt, ◌||◌, ◌==◌, if◌then◌else◌, List, [], ◌∷◌, ◌++◌}
use Rattle.std.specs.Char.{is_ascii}
use Rattle.htmd_lexical.specs.Numbers.{is_between}
use Rattle.htmd_encodings.specs.declared.indexes.big5_first.TheConstants.{BIG5_FIRST}
use Rattle.htmd_encodings.specs.declared.indexes.big5_rest.TheConstants.{BIG5_REST}
use Rattle.htmd_encodings.specs.declared.sequences.Sequence.{Sequence}
use Rattle.htmd_encodings.specs.Sequences.{character_at, error, pair, reads, reads_two}

-- the pointer of two bytes
abbrev pub pointer_of : ℕ → ℕ → ℕ
pointer_of lead b = (lead - 0x81) * 157 + (b - (if nat_lt b 0x7F then 0x40 else 0x62))

-- the answer to a second byte by the pointer of both; four pointers stand for two characters each
abbrev pub by_pointer : ℕ → ℕ → Sequence
by_pointer pointer b =
    if pointer == 1133 then reads_two 0xCA 0x304 1
    else if pointer == 1135 then reads_two 0xCA 0x30C 1
    else if pointer == 1164 then reads_two 0xEA 0x304 1
    else if pointer == 1166 then reads_two 0xEA 0x30C 1
    else pair (character_at (BIG5_FIRST ++ BIG5_REST) pointer) b

-- after a lead byte
abbrev pub after_lead : ℕ → List ℕ → Sequence
after_lead lead [] = error 0
after_lead lead (b ∷ s) =
    if is_between 0x40 0x7E b || is_between 0xA1 0xFE b then by_pointer (pointer_of lead b) b else pair 0xFFFD b

abbrev pub sequence_of : ℕ → List ℕ → Sequence
sequence_of b s =
    if is_ascii b then reads b 0 else if is_between 0x81 0xFE b then after_lead b s else error 0

-- EUC-JP: the Encoding Standard, 12.1.1, "EUC-JP decoder".
use Rattle.std.specs.Prelude.{ℕ, ◌+◌, ◌-◌, ◌*◌, Bool, ◌&&◌, ◌==◌, if◌then◌else◌, List, [], ◌∷◌}
use Rattle.std.specs.Char.{is_ascii}
use Rattle.htmd_lexical.specs.Numbers.{is_between}
use Rattle.htmd_encodings.specs.declared.indexes.jis0208.TheConstants.{JIS0208}
use Rattle.htmd_encodings.specs.declared.indexes.jis0212.TheConstants.{JIS0212}
use Rattle.htmd_encodings.specs.declared.sequences.Sequence.{Sequence}
use Rattle.htmd_encodings.specs.Sequences.{character_at, error, pair, reads}

abbrev pub is_lead : ℕ → Bool
is_lead b = is_between 0xA1 0xFE b

-- the character of two bytes by an index: jis0208, or jis0212 after the byte 8F
abbrev pub character : List ℕ → ℕ → ℕ → ℕ
character index lead b =
    if is_lead b then character_at index ((lead - 0xA1) * 94 + (b - 0xA1)) else 0xFFFD

-- after the byte 8E: half-width katakana
abbrev pub after_8e : List ℕ → Sequence
after_8e [] = error 0
after_8e (b ∷ s) = if is_between 0xA1 0xDF b then reads (0xFF61 - 0xA1 + b) 1 else pair 0xFFFD b

-- the answer to a third byte by the character of it and the second
abbrev pub triple : ℕ → ℕ → Sequence
triple c b = if (c == 0xFFFD) && is_ascii b then error 1 else reads c 2

-- after the byte 8F and a lead byte
abbrev pub after_8f_lead : ℕ → List ℕ → Sequence
after_8f_lead lead [] = error 1
after_8f_lead lead (b ∷ s) = triple (character JIS0212 lead b) b

-- after the byte 8F
abbrev pub after_8f : List ℕ → Sequence
after_8f [] = error 0
after_8f (b ∷ s) = if is_lead b then after_8f_lead b s else pair 0xFFFD b

-- after a lead byte
abbrev pub after_lead : ℕ → List ℕ → Sequence
after_lead lead [] = error 0
after_lead lead (b ∷ s) = pair (character JIS0208 lead b) b

abbrev pub sequence_of : ℕ → List ℕ → Sequence
sequence_of b s =
    if is_ascii b then reads b 0
    else if b == 0x8E then after_8e s
    else if b == 0x8F then after_8f s
    else if is_lead b then after_lead b s
    else error 0

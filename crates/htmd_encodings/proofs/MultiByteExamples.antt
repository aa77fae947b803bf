-- Worked examples of the decoders for characters of several bytes: characters, errors and what is given back.
use Rattle.std.proofs.Common.{◌≡◌, ℕ, false, List, [], ◌∷◌, refl}
use Rattle.htmd_encodings.specs.declared.encodings.MultiByte.{MultiByte}
use Rattle.htmd_encodings.specs.declared.encodings.MultiByte.TheVariants.{Gb18030, Big5, EucJp, ShiftJis, EucKr}
use Rattle.htmd_encodings.specs.declared.iso_2022_jp.Mode.TheVariants.{Ascii}
use Rattle.htmd_encodings.specs.Sequences.{characters_after}
use Rattle.htmd_encodings.specs.Iso2022Jp.{characters_in}
use Rattle.htmd_encodings.specs.MultiByte.{sequence_of}

abbrev read : MultiByte → List ℕ → List ℕ
read encoding bytes = characters_after (sequence_of encoding) 0 bytes

-- a character, an ASCII byte that is given back, one that isn't ASCII and so isn't, and a lead byte at the end
pairs_read : (read EucKr (0xB0 ∷ 0xA1 ∷ 0x81 ∷ 0x40 ∷ 0x81 ∷ 0x80 ∷ 0x81 ∷ [])
    ≡ 0xAC00 ∷ 0xFFFD ∷ 0x40 ∷ 0xFFFD ∷ 0xFFFD ∷ [])
    × (read EucKr (0x41 ∷ 0x80 ∷ 0xFF ∷ []) ≡ 0x41 ∷ 0xFFFD ∷ 0xFFFD ∷ [])
pairs_read = (refl, refl)

-- two bytes that are two characters
two_characters_read : read Big5 (0x88 ∷ 0x62 ∷ 0xA4 ∷ 0x40 ∷ []) ≡ 0xCA ∷ 0x304 ∷ 0x4E00 ∷ []
two_characters_read = refl

-- half-width katakana, JIS X 0212, and a third byte that is given back
three_bytes_read : (read EucJp (0x8E ∷ 0xB1 ∷ 0x8F ∷ 0xB0 ∷ 0xA1 ∷ []) ≡ 0xFF71 ∷ 0x4E02 ∷ [])
    × (read EucJp (0x8F ∷ 0xB0 ∷ 0x41 ∷ 0x8F ∷ 0xB0 ∷ []) ≡ 0xFFFD ∷ 0x41 ∷ 0xFFFD ∷ [])
three_bytes_read = (refl, refl)

-- a character for private use, one of one byte, and a byte that stands for a control
shift_jis_read : read ShiftJis (0xF0 ∷ 0x40 ∷ 0xB1 ∷ 0x80 ∷ []) ≡ 0xE000 ∷ 0xFF71 ∷ 0x80 ∷ []
shift_jis_read = refl

-- four bytes by the ranges, beyond U+FFFF, the one that is no part of them, and a pointer without a character
four_bytes_read : (read Gb18030 (0x81 ∷ 0x30 ∷ 0x81 ∷ 0x30 ∷ 0x90 ∷ 0x30 ∷ 0x81 ∷ 0x30 ∷ [])
    ≡ 0x80 ∷ 0x10000 ∷ [])
    × (read Gb18030 (0x81 ∷ 0x35 ∷ 0xF4 ∷ 0x37 ∷ 0x84 ∷ 0x31 ∷ 0xA5 ∷ 0x30 ∷ [])
    ≡ 0xE7C7 ∷ 0xFFFD ∷ [])
four_bytes_read = (refl, refl)

-- what is given back after one, two and three bytes: the digit and the lead byte are read again
bytes_given_back : (read Gb18030 (0x81 ∷ 0x3C ∷ 0x81 ∷ 0x30 ∷ 0x3C ∷ [])
    ≡ 0xFFFD ∷ 0x3C ∷ 0xFFFD ∷ 0x30 ∷ 0x3C ∷ [])
    × (read Gb18030 (0x81 ∷ 0x30 ∷ 0x81 ∷ 0x40 ∷ []) ≡ 0xFFFD ∷ 0x30 ∷ 0x4E02 ∷ [])
    × (read Gb18030 (0x81 ∷ 0x30 ∷ 0x81 ∷ []) ≡ 0xFFFD ∷ [])
bytes_given_back = (refl, refl, refl)

-- a character after an escape sequence, one escape sequence right after another, and one that is none
escapes_read :
    (characters_in Ascii false 0 (0x1B ∷ 0x24 ∷ 0x42 ∷ 0x30 ∷ 0x21 ∷ 0x1B ∷ 0x28 ∷ 0x42 ∷ 0x41 ∷ [])
    ≡ 0x4E9C ∷ 0x41 ∷ [])
    × (characters_in Ascii false 0 (0x1B ∷ 0x28 ∷ 0x4A ∷ 0x1B ∷ 0x28 ∷ 0x42 ∷ 0x5C ∷ [])
    ≡ 0xFFFD ∷ 0x5C ∷ [])
    × (characters_in Ascii false 0 (0x1B ∷ 0x28 ∷ 0x41 ∷ []) ≡ 0xFFFD ∷ 0x28 ∷ 0x41 ∷ [])
escapes_read = (refl, refl, refl)

-- UTF-16: the Encoding Standard, 14.2.1, "shared UTF-16 decoder".
use Rattle.std.specs.Prelude.{ℕ, ◌+◌, ◌*◌, Bool, false, if◌then◌else◌, List, [], ◌∷◌, encode_utf8_all}
use Rattle.std.specs.Char.Utf16.{is_high_surrogate, utf16_lossy_chars}
use Rattle.htmd_encodings.specs.declared.encodings.ByteOrder.{ByteOrder}
use Rattle.htmd_encodings.specs.declared.encodings.ByteOrder.TheVariants.{BigEndian, LittleEndian}

-- the code unit of two bytes
abbrev pub code_unit : ByteOrder → ℕ → ℕ → ℕ
code_unit BigEndian a b = a * 0x100 + b
code_unit LittleEndian a b = b * 0x100 + a

-- an odd byte at the end is U+FFFD; if a leading surrogate waits for its partner there, the two are one error
abbrev pub odd_byte : Bool → List ℕ
odd_byte waits = if waits then [] else 0xFFFD ∷ []

-- the code units of bytes, with a leading surrogate waiting before them or not
abbrev pub code_units_after : Bool → ByteOrder → List ℕ → List ℕ
code_units_after waits order [] = []
code_units_after waits order (a ∷ []) = odd_byte waits
code_units_after waits order (a ∷ b ∷ s) =
    code_unit order a b ∷ code_units_after (is_high_surrogate (code_unit order a b)) order s

-- the code units of bytes
abbrev pub code_units : ByteOrder → List ℕ → List ℕ
code_units order bytes = code_units_after false order bytes

-- the text of bytes; a surrogate without a partner is U+FFFD
abbrev pub utf16_text : ByteOrder → List ℕ → List ℕ
utf16_text order bytes = encode_utf8_all (utf16_lossy_chars (code_units order bytes))

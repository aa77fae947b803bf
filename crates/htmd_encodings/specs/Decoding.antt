-- The text of a page's bytes: the Encoding Standard, 6.1, "decode" and "BOM sniff", and the HTML Standard, 13.2.3.2.
use Rattle.std.specs.Prelude.{ℕ, Bool, true, false, not, ◌&&◌, ◌||◌, nat_le, ◌-◌, if◌then◌else◌, List, [], ◌∷◌, drop}
use Rattle.std.specs.Prelude.{take, map}
use Rattle.std.specs.Prelude.{slice_index, encode_utf8_all, Option, Some, None}
use Rattle.std.specs.Option.{option_or}
use Rattle.std.specs.Char.{encode_utf8}
use Rattle.std.specs.Str.{is_utf8}
use Rattle.std.specs.Str.Lossy.{utf8_lossy}
use Rattle.htmd_lexical.specs.CharacterClasses.{begins_with}
use Rattle.htmd_encodings.specs.declared.encodings.ByteOrder.TheVariants.{BigEndian, LittleEndian}
use Rattle.htmd_encodings.specs.declared.encodings.SingleByte.TheVariants.{Windows1252}
use Rattle.htmd_encodings.specs.declared.encodings.Encoding.{Encoding}
use Rattle.htmd_encodings.specs.declared.encodings.Encoding.TheVariants.{Utf8, Utf16, SingleByte, MultiByte}
use Rattle.htmd_encodings.specs.declared.encodings.Encoding.TheVariants.{Iso2022Jp, Replacement}
use Rattle.htmd_encodings.specs.Indexes.{index}
use Rattle.htmd_encodings.specs.Iso2022Jp.{iso_2022_jp_text}
use Rattle.htmd_encodings.specs.MultiByte.{multi_byte_text}
use Rattle.htmd_encodings.specs.Prescan.{prescan, search}
use Rattle.htmd_encodings.specs.Utf16.{utf16_text}

-- ---- the text in an encoding

-- the character of a byte by an index (the Encoding Standard, 9.1, "single-byte decoder")
abbrev pub character : List ℕ → ℕ → ℕ
character characters b = if nat_le 0x80 b then slice_index characters (b - 0x80) else b

-- the text of bytes by an index
abbrev pub text_by : List ℕ → List ℕ → List ℕ
text_by characters bytes = encode_utf8_all (map (character characters) bytes)

-- bytes without the mark of UTF-16
abbrev pub unmarked : List ℕ → List ℕ
unmarked bytes =
    if begins_with (0xFE ∷ 0xFF ∷ []) bytes || begins_with (0xFF ∷ 0xFE ∷ []) bytes then drop 2 bytes else bytes

-- one error for any bytes (14.1.1, "replacement decoder")
abbrev pub replacement_text : List ℕ → List ℕ
replacement_text [] = []
replacement_text (b ∷ s) = encode_utf8 0xFFFD

-- the text of bytes: the mark of UTF-16 is left out, that of UTF-8 stays; each longest beginning of a character that
-- isn't UTF-8 is U+FFFD (8.1.1, "UTF-8 decoder")
abbrev pub decoded : Encoding → List ℕ → List ℕ
decoded Utf8 bytes = utf8_lossy bytes
decoded (Utf16 order) bytes = utf16_text order (unmarked bytes)
decoded (SingleByte encoding) bytes = text_by (index encoding) bytes
decoded (MultiByte encoding) bytes = multi_byte_text encoding bytes
decoded Iso2022Jp bytes = iso_2022_jp_text bytes
decoded Replacement bytes = replacement_text bytes

-- ---- the encoding

-- the encoding that a mark says, which stands over all
abbrev pub marked : List ℕ → Option Encoding
marked bytes =
    if begins_with (0xEF ∷ 0xBB ∷ 0xBF ∷ []) bytes then Some Utf8
    else if begins_with (0xFE ∷ 0xFF ∷ []) bytes then Some (Utf16 BigEndian)
    else if begins_with (0xFF ∷ 0xFE ∷ []) bytes then Some (Utf16 LittleEndian)
    else None

-- what a page says is believed even if its bytes are UTF-8: bytes of UTF-16 and of ISO-2022-JP may be so by chance
abbrev pub outweighs_utf8 : Option Encoding → Bool
outweighs_utf8 (Some (Utf16 order)) = true
outweighs_utf8 (Some Iso2022Jp) = true
outweighs_utf8 _ = false

-- what a page says, or windows-1252
abbrev pub said_or_default : Option Encoding → Encoding
said_or_default None = SingleByte Windows1252
said_or_default (Some encoding) = encoding

-- what a page says in its first 1,024 bytes
abbrev pub said : List ℕ → Option Encoding
said bytes = prescan (take 1024 bytes)

-- what it says anywhere: where those bytes say nothing, the first `meta` after them that says an encoding counts
-- (13.2.3.4)
abbrev pub said_anywhere : Option Encoding → List ℕ → Option Encoding
said_anywhere said bytes = option_or said (search bytes)

-- the encoding when nothing is given and no mark is there, by what the page says in its first 1,024 bytes
abbrev pub believed : Option Encoding → List ℕ → Encoding
believed said bytes =
    if is_utf8 bytes && not (outweighs_utf8 said) then Utf8 else said_or_default (said_anywhere said bytes)

-- the encoding when nothing is given and no mark is there
abbrev pub guessed : List ℕ → Encoding
guessed bytes = believed (said bytes) bytes

-- the encoding of bytes without a mark
abbrev pub given_or_guessed : Option Encoding → List ℕ → Encoding
given_or_guessed None bytes = guessed bytes
given_or_guessed (Some given) bytes = given

abbrev pub marked_or_given : Option Encoding → Option Encoding → List ℕ → Encoding
marked_or_given None given bytes = given_or_guessed given bytes
marked_or_given (Some mark) given bytes = mark

-- the encoding of bytes: a mark decides, else what is given, else what the page says, and what its bytes can be
abbrev pub encoding_of : Option Encoding → List ℕ → Encoding
encoding_of given bytes = marked_or_given (marked bytes) given bytes

-- the text of a page's bytes
abbrev pub page_text : Option Encoding → List ℕ → List ℕ
page_text given bytes = decoded (encoding_of given bytes) bytes

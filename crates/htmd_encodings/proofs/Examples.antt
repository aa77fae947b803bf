-- Worked examples of labels, of what pages say, and of decoders.
use Rattle.std.proofs.Common.{◌≡◌, [], ◌∷◌, ◌++◌, codes, map, refl, Some, None}
use Rattle.std.specs.Char.{encode_utf8}
use Rattle.std.specs.Char.Utf16.{utf16_chars}
use Rattle.std.specs.Str.{chars, encode_utf8_all, is_utf8}
use Rattle.std.specs.Str.Lossy.{utf8_lossy, utf8_valid_len, utf8_error_len}
use Rattle.htmd_encodings.specs.declared.encodings.ByteOrder.TheVariants.{BigEndian, LittleEndian}
use Rattle.htmd_encodings.specs.declared.encodings.SingleByte.TheVariants.{Koi8U, Windows1252, Windows1255}
use Rattle.htmd_encodings.specs.declared.encodings.SingleByte.TheVariants.{Iso8859_2, Iso8859_7, Iso8859_8I, Koi8R}
use Rattle.htmd_encodings.specs.declared.encodings.MultiByte.TheVariants.{ShiftJis}
use Rattle.htmd_encodings.specs.declared.encodings.Encoding.TheVariants.{Utf8, Utf16, SingleByte, MultiByte, Iso2022Jp}
use Rattle.htmd_encodings.specs.Labels.{labels, encoding_named}
use Rattle.htmd_encodings.specs.Indexes.{index}
use Rattle.htmd_encodings.specs.Utf16.{utf16_text}
use Rattle.htmd_encodings.specs.Prescan.{prescan}
use Rattle.htmd_encodings.specs.Decoding.{believed, character, decoded, encoding_of}

-- a label in any case and with white space, one that means windows-1252, one of several bytes, and none
labels_named : (encoding_named (codes " KOI8-r\n") ≡ Some (SingleByte Koi8R))
    × (encoding_named (codes "latin1") ≡ Some (SingleByte Windows1252))
    × (encoding_named (codes "x-sjis") ≡ Some (MultiByte ShiftJis)) × (encoding_named (codes "utf-7") ≡ None)
unfolding labels
labels_named = (refl, refl, refl, refl)

-- a `charset`, the first of two, with other attributes and without quotes
charsets_said : (prescan (codes "<meta charset=iso-8859-2>") ≡ Some (SingleByte Iso8859_2))
    × (prescan (codes "<META/x='>' Charset = \"koi8-r\"charset=latin1>") ≡ Some (SingleByte Koi8R))
    × (prescan (codes "<meta charset=utf-16le>") ≡ Some Utf8)
unfolding labels
charsets_said = (refl, refl, refl)

-- a `content` counts beside `http-equiv`, and not without it
pragmas_said :
    (prescan (codes "<meta content='text/html; charset=iso-8859-7' http-equiv=Content-Type>")
    ≡ Some (SingleByte Iso8859_7))
    × (prescan (codes "<meta content='text/html; charset=iso-8859-7'>") ≡ None)
unfolding labels
pragmas_said = (refl, refl)

-- nothing counts in a comment, in the value of another tag's attribute and in a tag that doesn't end
passed_over : (prescan (codes "<!--<meta charset=koi8-r>-->") ≡ None)
    × (prescan (codes "<p title='<meta charset=koi8-r>'>") ≡ None)
    × (prescan (codes "<meta charset=koi8-r ") ≡ None)
    × (prescan (codes "<!--><meta charset=koi8-r>") ≡ Some (SingleByte Koi8R))
unfolding labels
passed_over = (refl, refl, refl, refl)

-- an XML declaration counts if no `meta` does
declarations_said : prescan (codes "<?xml version='1.0' encoding='shift_jis'?><p>") ≡ Some (MultiByte ShiftJis)
unfolding labels
declarations_said = refl

-- a mark stands over what is given, and that over what the page says; bytes that are UTF-8 are UTF-8, but for
-- ISO-2022-JP
encodings_chosen :
    (encoding_of (Some (SingleByte Koi8R)) (0xFF ∷ 0xFE ∷ []) ≡ Utf16 LittleEndian)
    × (encoding_of (Some (SingleByte Koi8R)) (codes "<meta charset=latin1>") ≡ SingleByte Koi8R)
    × (encoding_of None (codes "<meta charset=koi8-r>") ≡ Utf8)
    × (encoding_of None (codes "<meta charset=koi8-r>" ++ 0xC1 ∷ []) ≡ SingleByte Koi8R)
    × (encoding_of None (codes "<meta charset=iso-2022-jp>") ≡ Iso2022Jp)
    × (encoding_of None (0xC1 ∷ []) ≡ SingleByte Windows1252)
unfolding labels encode_utf8 is_utf8 chars
encodings_chosen = (refl, refl, refl, refl, refl, refl)

-- after the first 1,024 bytes a `meta` counts only where they say nothing; bytes that are UTF-8 are so in spite of it
late_metas :
    (believed None (codes "<meta charset=koi8-r>" ++ 0xC1 ∷ []) ≡ SingleByte Koi8R)
    × (believed (Some (SingleByte Koi8U)) (codes "<meta charset=koi8-r>" ++ 0xC1 ∷ [])
    ≡ SingleByte Koi8U)
    × (believed None (codes "<meta charset=iso-2022-jp>") ≡ Utf8)
unfolding labels encode_utf8 is_utf8 chars
late_metas = (refl, refl, refl)

-- characters by an index: a control of windows-1252, a letter of KOI8-U that Python has otherwise, and no character
characters_read :
    (map (character (index Windows1252)) (0x80 ∷ 0x81 ∷ 0xFF ∷ []) ≡ 0x20AC ∷ 0x81 ∷ 0xFF ∷ [])
    × (character (index Koi8U) 0xAE ≡ 0x45E) × (character (index Windows1255) 0xD9 ≡ 0xFFFD)
    × (character (index Iso8859_8I) 0xE0 ≡ 0x5D0)
characters_read = (refl, refl, refl, refl)

-- bytes decoded: a byte of windows-1252, and UTF-16, whose mark is left out
bytes_decoded : (decoded (SingleByte Windows1252) (0x80 ∷ []) ≡ encode_utf8_all (0x20AC ∷ []))
    × (decoded (Utf16 BigEndian) (0xFE ∷ 0xFF ∷ 0 ∷ 0x41 ∷ []) ≡ codes "A")
unfolding utf16_chars encode_utf8 is_utf8 chars
bytes_decoded = (refl, refl)

-- each longest beginning of a character in UTF-8 is U+FFFD: a cut one, and a byte that begins none
utf8_errors : decoded Utf8 (0xE2 ∷ 0x82 ∷ 0x41 ∷ 0xFF ∷ [])
    ≡ encode_utf8_all (0xFFFD ∷ 0x41 ∷ 0xFFFD ∷ [])
unfolding utf8_lossy utf8_valid_len utf8_error_len encode_utf8 is_utf8 chars
utf8_errors = refl

-- a letter in both orders, and a pair of surrogates
utf16_read : (utf16_text BigEndian (0 ∷ 0x41 ∷ []) ≡ codes "A")
    × (utf16_text LittleEndian (0x41 ∷ 0 ∷ []) ≡ codes "A")
    × (utf16_text BigEndian (0xD8 ∷ 0x3D ∷ 0xDE ∷ 0 ∷ []) ≡ encode_utf8 0x1F600)
unfolding utf16_chars encode_utf8
utf16_read = (refl, refl, refl)

-- a lone leading surrogate, a trailing one, an odd byte, and one after a leading surrogate: one error each
utf16_errors : (utf16_text BigEndian (0xD8 ∷ 0 ∷ 0 ∷ 0x41 ∷ []) ≡ encode_utf8_all (0xFFFD ∷ 0x41 ∷ []))
    × (utf16_text BigEndian (0xDC ∷ 0 ∷ []) ≡ encode_utf8 0xFFFD)
    × (utf16_text BigEndian (0 ∷ 0x41 ∷ 0 ∷ []) ≡ encode_utf8_all (0x41 ∷ 0xFFFD ∷ []))
    × (utf16_text BigEndian (0xD8 ∷ 0 ∷ 0x41 ∷ []) ≡ encode_utf8 0xFFFD)
unfolding utf16_chars encode_utf8
utf16_errors = (refl, refl, refl, refl)

-- The search for what a page says of its encoding: the HTML Standard, 13.2.3.2, "prescan a byte stream to determine its
-- encoding".
use Rattle.std.specs.Prelude.{ℕ, zero, suc, Bool, false, ◌&&◌, ◌||◌, if◌then◌else◌, List, [], ◌∷◌}
use Rattle.std.specs.Prelude.{drop, length, codes, Option, Some, None}
use Rattle.std.specs.Char.{is_ascii_alphabetic}
use Rattle.std.specs.Option.{option_or}
use Rattle.htmd_lexical.specs.Characters.{exclamation_mark, question_mark, slash, less_than_sign, greater_than_sign}
use Rattle.htmd_lexical.specs.CharacterClasses.{first_is, begins_with, begins_in_any_case, behind_run}
use Rattle.htmd_lexical.specs.TagReading.{is_other}
use Rattle.htmd_encodings.specs.declared.encodings.ByteOrder.TheVariants.{BigEndian, LittleEndian}
use Rattle.htmd_encodings.specs.declared.encodings.Encoding.TheVariants.{Utf16}
use Rattle.htmd_encodings.specs.declared.encodings.Encoding.{Encoding}
use Rattle.htmd_encodings.specs.Attributes.{Tag, tag, is_gap_byte, is_unquoted_byte}
use Rattle.htmd_encodings.specs.Declarations.{after_first, in_attributes, in_declaration}

-- what is at a `<`: an encoding is said, or nothing up to a place from which the search goes on. Where the bytes end
-- before that, nothing is left.
pub data Found : Type 0 where
  said : Encoding → Found
  onward : List ℕ → Found

-- the place after the next `>`
abbrev pub after_sign : List ℕ → List ℕ
after_sign s = drop 1 (behind_run (is_other greater_than_sign) s)

-- a `meta`, if its attributes say an encoding
abbrev pub said_or : Option Encoding → List ℕ → Found
said_or None s = onward s
said_or (Some encoding) s = said encoding

abbrev pub found_in_meta : Tag → Found
found_in_meta None = onward []
found_in_meta (Some (a, s)) = said_or (in_attributes a) s

-- any other tag
abbrev pub behind_tag : Tag → List ℕ
behind_tag None = []
behind_tag (Some (a, s)) = s

abbrev pub begins_with_gap : List ℕ → Bool
begins_with_gap [] = false
begins_with_gap (b ∷ s) = is_gap_byte b

abbrev pub begins_with_letter : List ℕ → Bool
begins_with_letter [] = false
begins_with_letter (b ∷ s) = is_ascii_alphabetic b

-- the text after `<` begins a tag
abbrev pub is_tag : List ℕ → Bool
is_tag s = begins_with_letter (if first_is slash s then drop 1 s else s)

-- what is after a `<` (step 4): a comment, whose `--` may be that of `-->`; a `meta`; another tag; what is passed up to
-- the next `>`; or anything else
abbrev pub found_after : List ℕ → Found
found_after s =
    if begins_with (codes "!--") s then onward (after_first (codes "-->") (drop 1 s))
    else if begins_in_any_case (codes "meta") s && begins_with_gap (drop 4 s) then found_in_meta (tag (drop 4 s))
    else if is_tag s then onward (behind_tag (tag (behind_run is_unquoted_byte s)))
    else if first_is exclamation_mark s || first_is slash s || first_is question_mark s then onward (after_sign s)
    else onward s

abbrev pub search_found : Found → (List ℕ → Option Encoding) → Option Encoding
search_found (said encoding) go = Some encoding
search_found (onward s) go = go s

abbrev pub search_at : List ℕ → (List ℕ → Option Encoding) → Option Encoding
search_at [] go = None
search_at (b ∷ s) go = search_found (found_after s) go

-- the encoding that is said at one of fewer than this many places
abbrev pub search_within : ℕ → List ℕ → Option Encoding
search_within zero s = None
search_within (suc k) s = search_at (behind_run (is_other less_than_sign) s) (search_within k)

-- every place takes at least one byte
abbrev pub search : List ℕ → Option Encoding
search s = search_within (suc (length s)) s

-- `<?x` in UTF-16
abbrev pub utf16_declaration : List ℕ → Option Encoding
utf16_declaration s =
    if begins_with (0x3C ∷ 0 ∷ 0x3F ∷ 0 ∷ 0x78 ∷ 0 ∷ []) s then Some (Utf16 LittleEndian)
    else if begins_with (0 ∷ 0x3C ∷ 0 ∷ 0x3F ∷ 0 ∷ 0x78 ∷ []) s then Some (Utf16 BigEndian)
    else None

-- the encoding that a page says in these bytes
abbrev pub prescan : List ℕ → Option Encoding
prescan s = option_or (utf16_declaration s) (option_or (search s) (in_declaration s))

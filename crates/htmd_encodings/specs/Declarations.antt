-- What a page says of its encoding: in a `meta` (the HTML Standard, 13.2.3.2, step 4 of the prescan), and in an XML
-- declaration ("get an XML encoding").
use Rattle.std.specs.Prelude.{ℕ, Bool, true, not, ◌&&◌, nat_le, if◌then◌else◌, List, drop, length, codes}
use Rattle.std.specs.Prelude.{Option, Some, None, option_map, option_and_then}
use Rattle.htmd_lexical.specs.Characters.{quotation_mark, apostrophe, equals_sign, greater_than_sign}
use Rattle.htmd_lexical.specs.CharacterClasses.{is_empty, first_is, begins_with, onward, behind_run}
use Rattle.htmd_lexical.specs.TagReading.{is_other}
use Rattle.htmd_encodings.specs.declared.attributes.Attributes.{Attributes}
use Rattle.htmd_encodings.specs.declared.encodings.SingleByte.TheVariants.{Windows1252, XUserDefined}
use Rattle.htmd_encodings.specs.declared.encodings.Encoding.TheVariants.{Utf8, Utf16, SingleByte}
use Rattle.htmd_encodings.specs.declared.encodings.Encoding.{Encoding}
use Rattle.htmd_encodings.specs.ContentLabels.{before_quote}
use Rattle.htmd_encodings.specs.Labels.{encoding_named}

-- ---- the attributes of `meta`

-- a page that can say so isn't UTF-16, and `x-user-defined` means windows-1252 there
abbrev pub in_meta : Encoding → Encoding
in_meta (Utf16 order) = Utf8
in_meta (SingleByte XUserDefined) = SingleByte Windows1252
in_meta other = other

-- what `content` says counts if `http-equiv` is `content-type`
abbrev pub in_pragma : Option Bool → Option (Option Encoding) → Option Encoding
in_pragma (Some true) (Some said) = said
in_pragma _ _ = None

-- what `charset` says counts, even if that is nothing; without it, what `content` says
abbrev pub said_in : Option (Option Encoding) → Attributes → Option Encoding
said_in (Some said) a = said
said_in None a = in_pragma a.http_equiv a.content

-- the encoding that the attributes of `meta` say
abbrev pub in_attributes : Attributes → Option Encoding
in_attributes a = option_map in_meta (said_in a.charset a)

-- ---- an XML declaration

-- a control or a space, and any other byte
abbrev pub is_control : ℕ → Bool
is_control b = nat_le b 0x20

abbrev pub is_visible : ℕ → Bool
is_visible b = not (is_control b)

-- what follows the first such bytes, or nothing if there are none
abbrev pub after_first : List ℕ → List ℕ → List ℕ
after_first searched s = drop (length searched) (onward (begins_with searched) s)

-- a page that can say so isn't UTF-16
abbrev pub in_xml : Encoding → Encoding
in_xml (Utf16 order) = Utf8
in_xml other = other

-- a label between quotes that has no control and no space
abbrev pub xml_label : List ℕ → Option (List ℕ)
xml_label s =
    if first_is quotation_mark s then before_quote quotation_mark (drop 1 s)
    else if first_is apostrophe s then before_quote apostrophe (drop 1 s)
    else None

abbrev pub whole_label : List ℕ → Option Encoding
whole_label label = if is_empty (behind_run is_visible label) then encoding_named label else None

-- the value of `encoding` in a declaration
abbrev pub after_encoding : List ℕ → Option Encoding
after_encoding s =
    if first_is equals_sign (behind_run is_control s)
    then option_and_then whole_label (xml_label (behind_run is_control (drop 1 (behind_run is_control s)))) else None

-- an XML declaration, at the very beginning
abbrev pub is_declaration : List ℕ → Bool
is_declaration s = begins_with (codes "<?xml") s && not (is_empty (behind_run (is_other greater_than_sign) s))

-- the encoding that it says
abbrev pub in_declaration : List ℕ → Option Encoding
in_declaration s =
    if is_declaration s then option_map in_xml (after_encoding (after_first (codes "encoding") s)) else None

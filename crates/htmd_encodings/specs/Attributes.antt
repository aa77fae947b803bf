-- The attributes of a tag, as the search for an encoding takes them: the HTML Standard, 13.2.3.2, "get an attribute".
use Rattle.std.specs.Prelude.{ℕ, zero, suc, Bool, false, not, ◌||◌, ◌==◌, if◌then◌else◌, List, [], ◌∷◌, drop, length}
use Rattle.std.specs.Prelude.{codes}
use Rattle.std.specs.Prelude.{Option, Some, None, option_and_then}
use Rattle.std.specs.Option.{unwrap_or}
use Rattle.htmd_lexical.specs.Characters.{quotation_mark, apostrophe, slash, equals_sign, greater_than_sign}
use Rattle.htmd_lexical.specs.WhiteSpace.{is_ascii_white_space}
use Rattle.htmd_lexical.specs.CharacterClasses.{first_is, leading_run, behind_run}
use Rattle.htmd_lexical.specs.TagReading.{TagPart, malformed, tag_end, attribute, quoted_value}
use Rattle.htmd_encodings.specs.declared.attributes.Attributes.{Attributes}
use Rattle.htmd_encodings.specs.ContentLabels.{content_label}
use Rattle.htmd_encodings.specs.Labels.{is_in_any_case, encoding_named}

-- ---- the next part of a tag: an attribute, or the end. It is `malformed` if the bytes end before that. Whether a tag
-- has `/` doesn't matter.

-- what is between the parts (step 1)
abbrev pub is_gap_byte : ℕ → Bool
is_gap_byte b = is_ascii_white_space b || (b == slash)

-- an attribute's name goes on, after its first byte, up to white space, `/`, `=` or `>` (step 5)
abbrev pub is_name_byte : ℕ → Bool
is_name_byte b = not (is_ascii_white_space b || (b == slash) || (b == equals_sign) || (b == greater_than_sign))

-- a value without quotes goes on up to white space or `>` (step 12)
abbrev pub is_unquoted_byte : ℕ → Bool
is_unquoted_byte b = not (is_ascii_white_space b || (b == greater_than_sign))

-- an attribute from its value on, after `=` and white space (steps 10 to 12)
abbrev pub value_part : List ℕ → List ℕ → TagPart
value_part name s =
    if first_is quotation_mark s then quoted_value quotation_mark name (drop 1 s)
    else if first_is apostrophe s then quoted_value apostrophe name (drop 1 s)
    else attribute name (leading_run is_unquoted_byte s) (behind_run is_unquoted_byte s)

-- an attribute from just after its name (steps 6 to 9)
abbrev pub after_name : List ℕ → List ℕ → TagPart
after_name name s =
    if first_is equals_sign (behind_run is_ascii_white_space s)
    then value_part name (behind_run is_ascii_white_space (drop 1 (behind_run is_ascii_white_space s)))
    else attribute name [] s

-- after a gap: any byte but `>` begins the name of an attribute, `=` too (steps 2 to 5)
abbrev pub after_gap : List ℕ → TagPart
after_gap [] = malformed
after_gap (b ∷ s) =
    if b == greater_than_sign then tag_end false s
    else after_name (b ∷ leading_run is_name_byte s) (behind_run is_name_byte s)

abbrev pub next_part : List ℕ → TagPart
next_part s = after_gap (behind_run is_gap_byte s)

-- ---- what the attributes say of the encoding: what the first `charset` names, and the first `content`, and whether
-- the first `http-equiv` is `content-type`

abbrev pub no_attributes : Attributes
no_attributes = record { charset = None; content = None; http_equiv = None }

-- what the first of two attributes says
abbrev pub first_of : {A : Type 0} → Option A → A → Option A
first_of first said = Some (unwrap_or first said)

-- attributes and then one more: names are the same in any ASCII case, and the first of one name counts
abbrev pub with_attribute : Attributes → List ℕ → List ℕ → Attributes
with_attribute a name value =
    if is_in_any_case name (codes "charset") then record a { charset = first_of a.charset (encoding_named value) }
    else if is_in_any_case name (codes "content")
    then record a { content = first_of a.content (option_and_then encoding_named (content_label value)) }
    else if is_in_any_case name (codes "http-equiv")
    then record a { http_equiv = first_of a.http_equiv (is_in_any_case value (codes "content-type")) }
    else a

-- what is in a tag after its name, and what follows the tag: nothing if the bytes end in it
abbrev pub Tag : Type 0
Tag = Option (Attributes × List ℕ)

abbrev pub tag_after : TagPart → Attributes → (Attributes → List ℕ → Tag) → Tag
tag_after malformed a go = None
tag_after (tag_end present s) a go = Some (a, s)
tag_after (attribute name value s) a go = go (with_attribute a name value) s

-- a tag with fewer than this many more attributes
abbrev pub tag_within : ℕ → Attributes → List ℕ → Tag
tag_within zero a s = None
tag_within (suc k) a s = tag_after (next_part s) a (tag_within k)

-- every attribute takes at least one byte
abbrev pub tag : List ℕ → Tag
tag s = tag_within (suc (length s)) no_attributes s

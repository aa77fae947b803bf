-- Start tags and end tags (HTML Standard, 13.2.5.8 and 13.2.5.32 to 13.2.5.40).
use Rattle.std.specs.Prelude.{ℕ, zero, suc, Bool, true, false, not, ◌&&◌, ◌||◌, ◌==◌, if◌then◌else◌, List, [], ◌∷◌, map}
use Rattle.std.specs.Prelude.{drop, length}
use Rattle.htmd_lexical.specs.Characters.{quotation_mark, apostrophe, slash, equals_sign}
use Rattle.htmd_lexical.specs.Characters.{greater_than_sign}
use Rattle.htmd_lexical.specs.WhiteSpace.{is_ascii_white_space}
use Rattle.htmd_lexical.specs.AttributePairs.{AttributePair}
use Rattle.htmd_lexical.specs.CharacterClasses.{first_is, leading_run, behind_run, is_among}
use Rattle.htmd_lexical.specs.TagReading.{TagPart, malformed, tag_end, attribute, quoted_value}
use Rattle.htmd_html5_tokens.specs.Contents.{decoded, name_of}
use Rattle.htmd_html5_tokens.specs.Tokens.{TagValue, TokenValue, start_tag, end_tag, end_of_file, Read}
use Rattle.htmd_html5_tokens.specs.declared.contents.Reading.TheVariants.{AttributeValue}

-- ---- what the parts of a tag are made of

-- a name goes on up to white space, `/` or `>` (13.2.5.8)
abbrev pub is_name_byte : ℕ → Bool
is_name_byte b = not (is_ascii_white_space b || (b == slash) || (b == greater_than_sign))

-- an attribute's name goes on, after its first character, up to `=` too (13.2.5.33)
abbrev pub is_attribute_name_byte : ℕ → Bool
is_attribute_name_byte b = is_name_byte b && not (b == equals_sign)

-- a value without quotes goes on up to white space or `>` (13.2.5.38)
abbrev pub is_unquoted_byte : ℕ → Bool
is_unquoted_byte b = not (is_ascii_white_space b || (b == greater_than_sign))

-- what is between the parts
abbrev pub is_gap_byte : ℕ → Bool
is_gap_byte b = is_ascii_white_space b || (b == slash)

-- whether the gap ends in `/`
abbrev pub ends_in_slash : List ℕ → Bool
ends_in_slash [] = false
ends_in_slash (b ∷ []) = b == slash
ends_in_slash (b ∷ c ∷ s) = ends_in_slash (c ∷ s)

-- ---- the next part: an attribute, or the end of the tag. It is `malformed` if the text ends before that.

-- an attribute from its value on, after `=` and white space (13.2.5.35 to 13.2.5.38)
abbrev pub value_part : List ℕ → List ℕ → TagPart
value_part name s =
    if first_is quotation_mark s then quoted_value quotation_mark name (drop 1 s)
    else if first_is apostrophe s then quoted_value apostrophe name (drop 1 s)
    else attribute name (leading_run is_unquoted_byte s) (behind_run is_unquoted_byte s)

-- an attribute from just after its name (13.2.5.34)
abbrev pub after_attribute_name : List ℕ → List ℕ → TagPart
after_attribute_name name s =
    if first_is equals_sign (behind_run is_ascii_white_space s)
    then value_part name (behind_run is_ascii_white_space (drop 1 (behind_run is_ascii_white_space s)))
    else attribute name [] s

-- after a gap, which may end in `/` (13.2.5.32, 13.2.5.40): any character but `>` begins the name of an attribute, `=`
-- too
abbrev pub after_gap : Bool → List ℕ → TagPart
after_gap ends [] = malformed
after_gap ends (b ∷ s) =
    if b == greater_than_sign then tag_end ends s
    else after_attribute_name (b ∷ leading_run is_attribute_name_byte s) (behind_run is_attribute_name_byte s)

abbrev pub next_part : List ℕ → TagPart
next_part s = after_gap (ends_in_slash (leading_run is_gap_byte s)) (behind_run is_gap_byte s)

-- ---- the attributes

-- what a tag is after its name: nothing, if the text ends in it; or attributes as they are spelled, whether it ends
-- in `/>`, and what follows
pub data TagForm : Type 0 where
  unended : TagForm
  ended : List AttributePair → Bool → List ℕ → TagForm

abbrev pub with_attribute : AttributePair → TagForm → TagForm
with_attribute a unended = unended
with_attribute a (ended spelled self_closing s) = ended (a ∷ spelled) self_closing s

abbrev pub form_after : TagPart → (List ℕ → TagForm) → TagForm
form_after malformed go = unended
form_after (tag_end self_closing s) go = ended [] self_closing s
form_after (attribute name value s) go = with_attribute (record { name = name; value = value }) (go s)

-- the form of a tag with fewer than this many attributes
abbrev pub form_within : ℕ → List ℕ → TagForm
form_within zero s = unended
form_within (suc k) s = form_after (next_part s) (form_within k)

-- every attribute takes at least one character
abbrev pub tag_form : List ℕ → TagForm
tag_form s = form_within (suc (length s)) s

-- an attribute of this spelling
abbrev pub attribute_of : AttributePair → AttributePair
attribute_of a = record { name = name_of a.name; value = decoded AttributeValue 0 a.value }

abbrev pub unless : Bool → AttributePair → List AttributePair → List AttributePair
unless true a attributes = attributes
unless false a attributes = a ∷ attributes

-- the first of attributes with one name counts (13.2.5.33); those before have these names
abbrev pub firsts : List (List ℕ) → List AttributePair → List AttributePair
firsts before [] = []
firsts before (a ∷ attributes) = unless (is_among before a.name) a (firsts (a.name ∷ before) attributes)

abbrev pub attributes_of : List AttributePair → List AttributePair
attributes_of spelled = firsts [] (map attribute_of spelled)

-- ---- the tag

abbrev pub tag_value : List ℕ → List AttributePair → Bool → TagValue
tag_value name spelled self_closing = record {
  name = name_of name;
  attributes = attributes_of spelled;
  self_closing = self_closing;
}

-- the token of a tag with this name; the end of the text within a tag makes nothing of it
abbrev pub tag_token : (TagValue → TokenValue) → List ℕ → TagForm → Read
tag_token kind name unended = record { token = end_of_file; rest = [] }
tag_token kind name (ended spelled self_closing s) =
    record { token = kind (tag_value name spelled self_closing); rest = s }

-- a tag from its name on
abbrev pub tag_from_name : (TagValue → TokenValue) → List ℕ → Read
tag_from_name kind s = tag_token kind (leading_run is_name_byte s) (tag_form (behind_run is_name_byte s))

-- a tag from just after its `<` (13.2.5.6, 13.2.5.7)
abbrev pub read_tag : List ℕ → Read
read_tag s = if first_is slash s then tag_from_name end_tag (drop 1 s) else tag_from_name start_tag s

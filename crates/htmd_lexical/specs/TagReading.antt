-- A start tag taken apart from left to right, as the steps of a reader and the search for a body take it. The relation
-- that says what a text denotes spells tags by itself.
use Rattle.std.specs.Prelude.{ℕ, zero, suc, Bool, true, false, not, ◌&&◌, ◌==◌, if◌then◌else◌, List, [], ◌∷◌, map, drop}
use Rattle.std.specs.Char.{to_ascii_lowercase}
use Rattle.htmd_lexical.specs.Characters.{quotation_mark, apostrophe, slash, equals_sign, greater_than_sign}
use Rattle.htmd_lexical.specs.WhiteSpace.{is_ascii_white_space}
use Rattle.htmd_lexical.specs.AttributePairs.{AttributePair}
use Rattle.htmd_lexical.specs.CharacterClasses.{is_empty, first_is, leading_run, behind_run, is_attribute_name_byte}
use Rattle.htmd_lexical.specs.CharacterClasses.{is_attribute_name, is_unquoted_byte}

-- what comes next in a tag
pub data TagPart : Type 0 where
  malformed : TagPart
  -- the end of the tag: whether it has `/`, and what follows the tag
  tag_end : Bool → List ℕ → TagPart
  -- an attribute: its name and value as they are spelled, and what follows it
  attribute : List ℕ → List ℕ → List ℕ → TagPart

abbrev pub is_other : ℕ → ℕ → Bool
is_other quote c = not (c == quote)

abbrev pub quoted_value : ℕ → List ℕ → List ℕ → TagPart
quoted_value quote name s =
    if is_empty (behind_run (is_other quote) s) then malformed
    else attribute name (leading_run (is_other quote) s) (drop 1 (behind_run (is_other quote) s))

abbrev pub unquoted_value : List ℕ → List ℕ → TagPart
unquoted_value name s =
    if is_empty (leading_run is_unquoted_byte s) then malformed
    else attribute name (leading_run is_unquoted_byte s) (behind_run is_unquoted_byte s)

-- after `=` and white space
abbrev pub value_part : List ℕ → List ℕ → TagPart
value_part name s =
    if first_is quotation_mark s then quoted_value quotation_mark name (drop 1 s)
    else if first_is apostrophe s then quoted_value apostrophe name (drop 1 s)
    else unquoted_value name s

-- after the name of an attribute
abbrev pub behind_attribute_name : List ℕ → List ℕ → TagPart
behind_attribute_name name s =
    if first_is equals_sign (behind_run is_ascii_white_space s)
    then value_part name (behind_run is_ascii_white_space (drop 1 (behind_run is_ascii_white_space s)))
    else attribute name [] s

-- after `/`
abbrev pub behind_slash : List ℕ → TagPart
behind_slash [] = malformed
behind_slash (b ∷ s) = if b == greater_than_sign then tag_end true s else malformed

-- after white space, which there may be
abbrev pub behind_gap : Bool → List ℕ → TagPart
behind_gap white [] = malformed
behind_gap white (b ∷ s) =
    if b == greater_than_sign then tag_end false s
    else if b == slash then behind_slash s
    else if white && is_attribute_name (leading_run is_attribute_name_byte (b ∷ s))
    then behind_attribute_name (leading_run is_attribute_name_byte (b ∷ s))
    (behind_run is_attribute_name_byte (b ∷ s))
    else malformed

-- the next attribute, or the end of the tag
abbrev pub next_part : List ℕ → TagPart
next_part s = behind_gap (not (is_empty (leading_run is_ascii_white_space s))) (behind_run is_ascii_white_space s)

-- what follows the name of a start tag: nothing of its form, or attributes with their values as they are spelled,
-- whether it has `/`, and what follows the tag
pub data TagForm : Type 0 where
  no_form : TagForm
  form : List AttributePair → Bool → List ℕ → TagForm

abbrev pub with_attribute : List ℕ → List ℕ → TagForm → TagForm
with_attribute name value no_form = no_form
with_attribute name value (form spelled present s) =
    form (record { name = map to_ascii_lowercase name; value = value } ∷ spelled) present s

abbrev pub form_behind : TagPart → (List ℕ → TagForm) → TagForm
form_behind malformed go = no_form
form_behind (tag_end present s) go = form [] present s
form_behind (attribute name value s) go = with_attribute name value (go s)

-- the form of a tag with fewer than this many attributes
abbrev pub form_within : ℕ → List ℕ → TagForm
form_within zero s = no_form
form_within (suc k) s = form_behind (next_part s) (form_within k)

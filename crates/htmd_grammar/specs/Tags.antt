-- Start tags and end tags (HTML Standard, 13.1.2.1 to 13.1.2.3), as they are spelled.
use Rattle.std.specs.Prelude.{◌≡◌, ◌≢◌, ◌⊎◌, ℕ, Bool, true, if◌then◌else◌, List, [], ◌∷◌, ◌++◌, map, Option, Some, None}
use Rattle.std.specs.List.{list_all}
use Rattle.std.specs.Char.{to_ascii_lowercase}
use Rattle.htmd_lexical.specs.Characters.{quotation_mark, apostrophe, slash, less_than_sign, equals_sign}
use Rattle.htmd_lexical.specs.Characters.{greater_than_sign}
use Rattle.htmd_lexical.specs.WhiteSpace.{is_ascii_white_space}
use Rattle.htmd_lexical.specs.AttributePairs.{AttributePair}
use Rattle.htmd_lexical.specs.CharacterClasses.{is_tag_name, is_attribute_name, is_unquoted_byte, leading_run, lacks}
use Rattle.htmd_lexical.specs.CharacterClasses.{are_distinct}
use Rattle.htmd_grammar.specs.References.{Names, decode}
use Rattle.htmd_values.specs.Serialisation.{is_void}
use Rattle.htmd_lexical.specs.Attributes.{attribute_names}

-- `=`, with white space on either side
abbrev pub IsEqualsSign : List ℕ → Type 0
IsEqualsSign s =
    (left right : List ℕ) × (s ≡ left ++ (equals_sign ∷ right))
    × (list_all is_ascii_white_space left ≡ true) × (list_all is_ascii_white_space right ≡ true)

-- What is between an attribute's name and the rest of its tag gives it the value v, as it is spelled: nothing (the
-- value is empty), or `=` and a value in quotation marks or apostrophes, or `=` and an unquoted value, the longest run.
abbrev pub IsValue : List ℕ → List ℕ → List ℕ → Type 0
IsValue s rest v =
    ((s ≡ []) × (v ≡ []))
    ⊎ ((equals : List ℕ) × (quote : ℕ) × (s ≡ equals ++ (quote ∷ (v ++ quote ∷ [])))
    × IsEqualsSign equals
    × ((quote ≡ quotation_mark) ⊎ (quote ≡ apostrophe)) × (lacks quote v ≡ true))
    ⊎ ((equals : List ℕ) × (s ≡ equals ++ v) × IsEqualsSign equals × (v ≢ [])
    × (leading_run is_unquoted_byte (v ++ rest) ≡ v))

abbrev pub optional_slash : Bool → List ℕ
optional_slash present = if present then slash ∷ [] else []

-- A start tag after its name: attributes, each after white space, their names in lower case and their values as
-- they are spelled; then optional white space, an optional `/`, and `>`.
abbrev pub IsTagRest : List AttributePair → Bool → List ℕ → Type 0
IsTagRest [] present s =
    (gap : List ℕ) × (s ≡ gap ++ (optional_slash present ++ greater_than_sign ∷ []))
    × (list_all is_ascii_white_space gap ≡ true)
IsTagRest (a ∷ attributes) present s =
    (gap name value rest : List ℕ) × (s ≡ gap ++ (name ++ (value ++ rest)))
    × (gap ≢ []) × (list_all is_ascii_white_space gap ≡ true)
    × (is_attribute_name name ≡ true) × (map to_ascii_lowercase name ≡ a.name)
    × IsValue value rest a.value × IsTagRest attributes present rest

-- The form of a start tag: what its references are, whether a name stands twice and whether it may have its `/` are
-- set aside.
abbrev pub IsTagForm : List ℕ → List ℕ → List AttributePair → Bool → Type 0
IsTagForm tag n spelled present =
    (name rest : List ℕ) × (tag ≡ less_than_sign ∷ (name ++ rest))
    × (is_tag_name name ≡ true) × (map to_ascii_lowercase name ≡ n) × IsTagRest spelled present rest

abbrev pub with_value : List ℕ → Option (List ℕ) → Option (List AttributePair) → Option (List AttributePair)
with_value n None attributes = None
with_value n (Some v) None = None
with_value n (Some v) (Some attributes) = Some (record { name = n; value = v } ∷ attributes)

-- the attributes, with what the references in their values stand for
abbrev pub decode_values : Names → List AttributePair → Option (List AttributePair)
decode_values names [] = Some []
decode_values names (a ∷ spelled) = with_value a.name (decode names 0 a.value) (decode_values names spelled)

-- a start tag with this name and these attributes; only a void element's may have a `/`
abbrev pub IsStartTag : Names → List ℕ → List ℕ → List AttributePair → Type 0
IsStartTag names tag n attributes =
    (spelled : List AttributePair) × (present : Bool) × IsTagForm tag n spelled present
    × (decode_values names spelled ≡ Some attributes) × (are_distinct (attribute_names spelled) ≡ true)
    × (present ≡ true → is_void n ≡ true)

-- an end tag with this name
abbrev pub IsEndTag : List ℕ → List ℕ → Type 0
IsEndTag tag n =
    (name gap : List ℕ) × (tag ≡ less_than_sign ∷ slash ∷ (name ++ (gap ++ greater_than_sign ∷ [])))
    × (is_tag_name name ≡ true) × (list_all is_ascii_white_space gap ≡ true)
    × (map to_ascii_lowercase name ≡ n)

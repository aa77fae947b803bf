-- What the parts of a start tag, as the reader holds them, are in the grammar's terms.
use Rattle.std.specs.Prelude.{ℕ, Bool, not, ◌&&◌, List, ◌++◌, map, if◌then◌else◌, Option, Some, None, Result, Ok, Err}
use Rattle.std.specs.List.{list_any}
use Rattle.std.specs.Char.{to_ascii_lowercase}
use Rattle.htmd_lexical.specs.AttributePairs.{AttributePair}
use Rattle.htmd_lexical.specs.CharacterClasses.{leading_run, behind_run, is_attribute_name, is_attribute_name_byte}
use Rattle.htmd_lexical.specs.CharacterClasses.{are_distinct}
use Rattle.htmd_grammar.specs.Nesting.{is_outside}
use Rattle.htmd_grammar.specs.Rules.{named_characters}
use Rattle.htmd_values.specs.Serialisation.{is_void}
use Rattle.htmd_lexical.specs.Attributes.{attribute_names}
use Rattle.htmd_grammar.specs.Tags.{decode_values}
use Rattle.htmd_grammar.specs.OpenElements.{has_unknown_reference}
use Rattle.htmd_grammar.specs.declared.fault.FaultKind.{FaultKind}
use Rattle.htmd_grammar.specs.declared.fault.FaultKind.TheVariants.{UnknownReference, BadNumber, DuplicateAttribute}
use Rattle.htmd_grammar.specs.declared.fault.FaultKind.TheVariants.{SelfClosing}
use Rattle.htmd_grammar.specs.declared.fault.FaultKind.TheVariants.{TagOutside}
use Rattle.htmd_lexical.specs.TagReading.{TagPart, malformed, behind_attribute_name}
use Rattle.htmd_lexical.specs.TagReading.{TagForm, no_form, form}
use Rattle.htmd_scanning.specs.declared.tag_parts.SpelledAttribute.{SpelledAttribute}

abbrev pub spelled_of : SpelledAttribute → AttributePair
spelled_of a = record { name = map to_ascii_lowercase a.name.now; value = a.value.now }

abbrev pub all_spelled_of : List SpelledAttribute → List AttributePair
all_spelled_of spelled = map spelled_of spelled

-- attributes, and then a form
abbrev pub with_attributes : List AttributePair → TagForm → TagForm
with_attributes spelled no_form = no_form
with_attributes spelled (form more present s) = form (spelled ++ more) present s

-- an attribute, which begins with its name
abbrev pub attribute_part : List ℕ → TagPart
attribute_part s =
    if is_attribute_name (leading_run is_attribute_name_byte s)
    then behind_attribute_name (leading_run is_attribute_name_byte s) (behind_run is_attribute_name_byte s)
    else malformed

-- ---- attributes of which the form has been read

abbrev pub distinct_attributes : List AttributePair → Option (List AttributePair)
    → Result (List AttributePair) FaultKind
distinct_attributes spelled None = Err BadNumber
distinct_attributes spelled (Some attributes) =
    if are_distinct (attribute_names spelled) then Ok attributes else Err DuplicateAttribute

-- the attributes that are spelled like this, or what is wrong with them
abbrev pub read_attributes : List AttributePair → Result (List AttributePair) FaultKind
read_attributes spelled =
    if list_any (λ a. has_unknown_reference named_characters a.value) spelled then Err UnknownReference
    else distinct_attributes spelled (decode_values named_characters spelled)

-- what is wrong with a start tag with this name, with a `/` or without
abbrev pub fault_of_name : List ℕ → Bool → Option FaultKind
fault_of_name n present =
    if present && not (is_void n) then Some SelfClosing else if is_outside n then Some TagOutside else None

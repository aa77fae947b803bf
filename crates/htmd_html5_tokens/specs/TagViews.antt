-- What the parts of a tag, as the program holds them, are.
use Rattle.std.specs.Prelude.{ℕ, List, [], ◌∷◌, ◌++◌, map}
use Rattle.htmd_lexical.specs.AttributePairs.{AttributePair}
use Rattle.htmd_lexical.specs.CharacterClasses.{leading_run, behind_run}
use Rattle.htmd_lexical.specs.TagReading.{TagPart, malformed}
use Rattle.htmd_html5_tokens.specs.Tags.{after_attribute_name, attribute_of, is_attribute_name_byte}
use Rattle.htmd_html5_tokens.specs.Tags.{TagForm, unended, ended}
use Rattle.htmd_scanning.specs.declared.tag_parts.SpelledAttribute.{SpelledAttribute}

abbrev pub spelled_of : SpelledAttribute → AttributePair
spelled_of a = record { name = a.name.now; value = a.value.now }

-- a form, with what each attribute denotes
abbrev pub denoted : TagForm → TagForm
denoted unended = unended
denoted (ended spelled slash s) = ended (map attribute_of spelled) slash s

-- attributes, and then a form
abbrev pub with_attributes : List AttributePair → TagForm → TagForm
with_attributes spelled unended = unended
with_attributes spelled (ended more slash s) = ended (spelled ++ more) slash s

-- an attribute, which begins with its name
abbrev pub attribute_part : List ℕ → TagPart
attribute_part [] = malformed
attribute_part (b ∷ s) =
    after_attribute_name (b ∷ leading_run is_attribute_name_byte s) (behind_run is_attribute_name_byte s)

-- What the values that the program holds are in these terms; only the contracts of private functions cite it.
use Rattle.std.specs.Prelude.{ℕ, Bool, false, List, [], ◌∷◌, Option, option_map}
use Rattle.std.specs.Borrow.{Bor}
use Rattle.htmd_lexical.specs.CharacterClasses.{leading_run, behind_run}
use Rattle.htmd_lexical.specs.TagReading.{TagPart, malformed, tag_end, attribute, is_other}
use Rattle.htmd_lexical.specs.WhiteSpace.{is_ascii_white_space}
use Rattle.htmd_encodings.specs.declared.attributes.Attributes.{Attributes}
use Rattle.htmd_encodings.specs.declared.attributes.Part.{Part}
use Rattle.htmd_encodings.specs.declared.attributes.Part.TheVariants.{Unended, End, Attribute}
use Rattle.htmd_encodings.specs.declared.encodings.Encoding.{Encoding}
use Rattle.htmd_encodings.specs.declared.cuts.Class.{Class}
use Rattle.htmd_encodings.specs.declared.cuts.Class.TheVariants as class
use Rattle.htmd_encodings.specs.Attributes.{is_gap_byte, is_name_byte, is_unquoted_byte, after_name}
use Rattle.htmd_encodings.specs.ContentLabels.{is_label_byte}
use Rattle.htmd_encodings.specs.Declarations.{is_control, is_visible}
use Rattle.htmd_encodings.specs.Labels.{Label}

-- a row of the source's table
abbrev pub Row : Type 0
Row = Bor (List ℕ) × Encoding

abbrev pub label_of : Row → Label
label_of row = (row.0.now, row.1)

abbrev pub is_in : Class → ℕ → Bool
is_in class.White = is_ascii_white_space
is_in class.Gap = is_gap_byte
is_in class.AttributeName = is_name_byte
is_in class.UnquotedValue = is_unquoted_byte
is_in class.Label = is_label_byte
is_in class.Control = is_control
is_in class.Visible = is_visible
is_in (class.Other b) = is_other b

abbrev pub part_of : Part → TagPart
part_of Unended = malformed
part_of (End rest) = tag_end false rest.now
part_of (Attribute name value rest) = attribute name.now value.now rest.now

-- an attribute, which begins with its name
abbrev pub attribute_part : List ℕ → TagPart
attribute_part [] = malformed
attribute_part (b ∷ s) = after_name (b ∷ leading_run is_name_byte s) (behind_run is_name_byte s)

abbrev pub value_of : Option (Bor (List ℕ)) → Option (List ℕ)
value_of value = option_map (λ v. v.now) value

-- a tag's attributes, and what follows it
abbrev pub tag_of : Attributes × Bor (List ℕ) → Attributes × List ℕ
tag_of tag = (tag.0, tag.1.now)

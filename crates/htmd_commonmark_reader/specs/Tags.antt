-- Places in an open tag, as the reader holds them, and what signs enclose.
use Rattle.std.specs.Prelude.{ℕ, if◌then◌else◌, List, length, drop, Option, None}
use Rattle.htmd_lexical.specs.CharacterClasses.{begins_with}
use Rattle.htmd_commonmark_reading.specs.Characters.{in_front_of}
use Rattle.htmd_commonmark_reading.specs.RawTags as spec
use Rattle.htmd_commonmark_reader.specs.declared.raw_tags.Place.{Place}
use Rattle.htmd_commonmark_reader.specs.declared.raw_tags.Place.TheVariants.{TagName, AfterSpace, AttributeName}
use Rattle.htmd_commonmark_reader.specs.declared.raw_tags.Place.TheVariants.{AfterAttributeName, BeforeValue}
use Rattle.htmd_commonmark_reader.specs.declared.raw_tags.Place.TheVariants.{UnquotedValue, Quotes, AfterQuotes}
use Rattle.htmd_commonmark_reader.specs.declared.raw_tags.Place.TheVariants.{AfterSlash, End, Refused}

abbrev pub place_of : Place → spec.Place
place_of TagName = spec.in_tag_name
place_of AfterSpace = spec.after_space
place_of AttributeName = spec.in_attribute_name
place_of AfterAttributeName = spec.after_attribute_name
place_of BeforeValue = spec.before_value
place_of UnquotedValue = spec.in_unquoted_value
place_of (Quotes quote) = spec.in_quotes quote
place_of AfterQuotes = spec.after_quotes
place_of AfterSlash = spec.after_slash
place_of End = spec.at_end
place_of Refused = spec.refused

-- what begins with the first signs, and goes through the first of the other signs after them
abbrev pub enclosed : List ℕ → List ℕ → List ℕ → Option (List ℕ)
enclosed begin end s =
    if begins_with begin s then in_front_of begin (spec.through end (drop (length begin) s)) else None

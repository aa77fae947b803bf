-- Link reference definitions as the reader holds them.
use Rattle.std.specs.Prelude.{if◌then◌else◌, drop, Option, Some, None, option_map, string_bytes, encode_utf8_all}
use Rattle.htmd_lexical.specs.Characters.{colon}
use Rattle.htmd_lexical.specs.CharacterClasses.{first_is}
use Rattle.htmd_commonmark_reading.specs.Characters.{Front, unescaped}
use Rattle.htmd_commonmark_reading.specs.LinkDefinitions as spec
use Rattle.htmd_commonmark_reader.specs.declared.definitions.Definition.{Definition}
use Rattle.htmd_commonmark_reader.specs.declared.definitions.RawDefinition.{RawDefinition}

abbrev pub defined_of : RawDefinition → spec.Defined
defined_of raw = record {
  definition = record {
    key = spec.label_key raw.label.now;
    address = unescaped raw.address.now;
    title = option_map (λ t. unescaped t.now) raw.title;
  };
  rest = raw.rest.now;
}

-- the definition after a label, whatever it is
abbrev pub unkeyed : Option Front → Option spec.Defined
unkeyed None = None
unkeyed (Some l) =
    if first_is colon l.rest
    then spec.after_destination (spec.label_key l.front) (spec.destination (spec.past_white (drop 1 l.rest)))
    else None

-- a definition with its key as text, as the reader holds it and as the rules say it
abbrev pub held_of : Definition → spec.Definition
held_of d = record {
  key = string_bytes d.key;
  address = string_bytes d.address;
  title = option_map (λ t. string_bytes t) d.title;
}

abbrev pub encoded : spec.Definition → spec.Definition
encoded d = record { key = encode_utf8_all d.key; address = d.address; title = d.title }

-- Definitions by their keys, as the reader holds them.
use Rattle.std.specs.Prelude.{ℕ, if◌then◌else◌, List, [], ◌∷◌, Option, Some, None, Vec, string_bytes}
use Rattle.std.specs.BTreeMap.{BTreeMap, get_by}
use Rattle.std.specs.Cmp.Lexicographic.{slice_cmp}
use Rattle.std.specs.List.{slice_get}
use Rattle.std.specs.Option.{option_and_then, option_map}
use Rattle.std.specs.Ordering.{nat_cmp}
use Rattle.std.specs.Str.{bytes_eq, chars}
use Rattle.std.specs.declared.alloc.Global.{Global}
use Rattle.htmd_commonmark_reading.specs.Brackets as spec
use Rattle.htmd_commonmark_reading.specs.LinkDefinitions as links
use Rattle.htmd_commonmark_reader.specs.Definitions.{held_of}
use Rattle.htmd_commonmark_reader.specs.declared.definitions.Definition.{Definition}

abbrev pub definition_of : Definition → links.Definition
definition_of d = record {
  key = chars (string_bytes d.key);
  address = string_bytes d.address;
  title = option_map (λ t. string_bytes t) d.title;
}

-- the first definition with a key
abbrev pub with_key : spec.References → List ℕ → Option links.Definition
with_key [] key = None
with_key (d ∷ ds) key = if bytes_eq d.key key then Some d else with_key ds key

-- what is kept for a key, as text
abbrev pub held_with : List Definition → BTreeMap (Vec ℕ Global) ℕ → List ℕ → Option links.Definition
held_with ds places key =
    option_and_then (λ place. option_map held_of (slice_get ds place))
    (get_by (λ k. slice_cmp nat_cmp key k.items) places)

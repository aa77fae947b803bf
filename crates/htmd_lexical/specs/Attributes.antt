-- What attributes that are held stand for.
use Rattle.std.specs.Prelude.{List, map, string_bytes, ℕ}
use Rattle.htmd_lexical.specs.declared.attribute.Attribute.{Attribute}
use Rattle.htmd_lexical.specs.AttributePairs.{AttributePair}

abbrev pub pair_of : Attribute → AttributePair
pair_of attribute = record { name = string_bytes attribute.name; value = string_bytes attribute.value }

abbrev pub pairs_of : List Attribute → List AttributePair
pairs_of attributes = map pair_of attributes

abbrev pub attribute_names : List AttributePair → List (List ℕ)
attribute_names attributes = map (λ a. a.name) attributes

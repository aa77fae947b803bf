-- The name was not met so far.
use Rattle.std.proofs.Common.{◌≡◌, drop}
use Rattle.htmd_lexical.specs.CharacterClasses.{is_among}
use Rattle.htmd_lexical.specs.Attributes.{attribute_names, pairs_of}
use Rattle.htmd_scanning.proofs.distinct.has_name.Given as goal

abbrev pub invariant-loop-attribute : goal.invariant-loop-attribute
invariant-loop-attribute l =
    is_among (attribute_names (pairs_of (drop l.attribute-index l.attributes))) l.name
    ≡ is_among (attribute_names (pairs_of l.attributes)) l.name

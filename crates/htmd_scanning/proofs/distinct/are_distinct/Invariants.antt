-- The set has the names that were met, from the back, and none stood twice.
use Rattle.std.proofs.Common.{◌≡◌, true, List, ◌++◌, length}
use Rattle.htmd_lexical.specs.CharacterClasses.{are_distinct}
use Rattle.htmd_lexical.specs.Attributes.{attribute_names}
use Rattle.htmd_lexical.specs.declared.attribute.Attribute.{Attribute}
use Rattle.htmd_lexical.specs.Attributes.{pairs_of}
use Rattle.htmd_lexical.proofs.NamesLemmas.{HasNames}
use Rattle.htmd_scanning.proofs.distinct.are_distinct.Given as goal

abbrev pub invariant-loop-rest : goal.invariant-loop-rest
invariant-loop-rest l =
    (after : List Attribute) × (l.attributes ≡ l.rest ++ after)
    × (are_distinct (attribute_names (pairs_of after)) ≡ true)
    × HasNames l.names (attribute_names (pairs_of after))

abbrev pub decreases-loop-rest : goal.decreases-loop-rest
decreases-loop-rest l = length l.rest

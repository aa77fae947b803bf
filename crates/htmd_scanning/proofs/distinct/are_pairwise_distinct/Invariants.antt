-- No name stood twice so far.
use Rattle.std.proofs.Common.{◌≡◌, length}
use Rattle.htmd_lexical.specs.CharacterClasses.{are_distinct}
use Rattle.htmd_lexical.specs.Attributes.{attribute_names, pairs_of}
use Rattle.htmd_scanning.proofs.distinct.are_pairwise_distinct.Given as goal

abbrev pub invariant-loop-rest : goal.invariant-loop-rest
invariant-loop-rest l =
    are_distinct (attribute_names (pairs_of l.rest)) ≡ are_distinct (attribute_names (pairs_of l.attributes))

abbrev pub decreases-loop-rest : goal.decreases-loop-rest
decreases-loop-rest l = length l.rest

-- Nothing was found so far.
use Rattle.std.proofs.Common.{◌≡◌, length}
use Rattle.htmd_lexical.specs.CharacterClasses.{holds_control}
use Rattle.htmd_tree.proofs.reader.attributes.holds_control.Given as goal

abbrev pub invariant-loop-rest : goal.invariant-loop-rest
invariant-loop-rest l = holds_control l.rest ≡ holds_control l.bytes

abbrev pub decreases-loop-rest : goal.decreases-loop-rest
decreases-loop-rest l = length l.rest

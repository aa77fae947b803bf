-- What the loop of `holds_other_end` keeps.
use Rattle.std.proofs.Common.{◌≡◌, length, codes}
use Rattle.htmd_lexical.specs.CharacterClasses.{holds}
use Rattle.htmd_tree.proofs.reader.comments.holds_other_end.Given as goal

abbrev pub invariant-loop-rest : goal.invariant-loop-rest
invariant-loop-rest l = holds (codes "--!>") l.rest ≡ holds (codes "--!>") l.bytes

abbrev pub decreases-loop-rest : goal.decreases-loop-rest
decreases-loop-rest l = length l.rest

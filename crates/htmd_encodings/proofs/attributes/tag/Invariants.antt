-- The attributes so far, and what is left, are the tag.
use Rattle.std.proofs.Common.{◌≡◌, suc, length}
use Rattle.htmd_encodings.specs.Attributes.{no_attributes, tag_within}
use Rattle.htmd_encodings.proofs.attributes.tag.Given as goal

abbrev pub invariant-loop-rest : goal.invariant-loop-rest
invariant-loop-rest l =
    tag_within (suc (length l.after)) l.attributes l.after ≡ tag_within (suc (length l.bytes)) no_attributes l.bytes

abbrev pub decreases-loop-rest : goal.decreases-loop-rest
decreases-loop-rest l = length l.after

-- The label of what is left is that of all.
use Rattle.std.proofs.Common.{◌≡◌, length}
use Rattle.htmd_encodings.specs.ContentLabels as spec
use Rattle.htmd_encodings.proofs.content_labels.content_label.Given as goal

abbrev pub invariant-loop-rest : goal.invariant-loop-rest
invariant-loop-rest l = spec.content_label l.rest ≡ spec.content_label l.content

abbrev pub decreases-loop-rest : goal.decreases-loop-rest
decreases-loop-rest l = length l.rest

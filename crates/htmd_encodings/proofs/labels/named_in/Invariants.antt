-- No label so far is this one.
use Rattle.std.proofs.Common.{◌≡◌, drop, map}
use Rattle.htmd_encodings.specs.Labels as spec
use Rattle.htmd_encodings.specs.Views.{label_of}
use Rattle.htmd_encodings.proofs.labels.named_in.Given as goal

abbrev pub invariant-loop-known : goal.invariant-loop-known
invariant-loop-known l =
    spec.named_in (map label_of (drop l.known-index l.labels)) l.label ≡ spec.named_in (map label_of l.labels) l.label

-- No byte so far is escaped.
use Rattle.std.proofs.Common.{◌≡◌, ◌++◌, ◌-◌, take, drop, length}
use Rattle.htmd_streams.specs.Fields as spec
use Rattle.htmd_streams.proofs.fields.next_escape.Given as goal

abbrev pub invariant-loop-place : goal.invariant-loop-place
invariant-loop-place l =
    spec.written_field l.text ≡ take l.place l.text ++ spec.written_field (drop l.place l.text)

abbrev pub decreases-loop-place : goal.decreases-loop-place
decreases-loop-place l = length l.text - l.place

-- The row so far, with the rest as a field, is the row.
use Rattle.std.proofs.Common.{◌≡◌, ◌++◌, length, vec_items}
use Rattle.htmd_streams.specs.Fields as spec
use Rattle.htmd_streams.proofs.fields.write_field.Given as goal

abbrev pub invariant-loop-plain : goal.invariant-loop-plain
invariant-loop-plain l =
    vec_items l.row ++ spec.written_field l.rest ≡ vec_items l.initial.row ++ spec.written_field l.text

abbrev pub decreases-loop-plain : goal.decreases-loop-plain
decreases-loop-plain l = length l.rest

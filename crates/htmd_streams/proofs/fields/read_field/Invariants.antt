-- The page so far, with what the rest says, is the page.
use Rattle.std.proofs.Common.{◌≡◌, ◌++◌, length, vec_items}
use Rattle.htmd_streams.specs.Fields as spec
use Rattle.htmd_streams.proofs.fields.read_field.Given as goal

abbrev pub invariant-loop-front : goal.invariant-loop-front
invariant-loop-front l =
    vec_items l.page ++ spec.read_field l.rest ≡ vec_items l.initial.page ++ spec.read_field l.field

abbrev pub decreases-loop-front : goal.decreases-loop-front
decreases-loop-front l = length l.rest

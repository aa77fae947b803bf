-- What was read, and the place behind it.
use Rattle.std.proofs.Common.{◌≡◌, take, drop}
use Rattle.htmd_commonmark_reading.specs.Characters.{in_front_of}
use Rattle.htmd_commonmark_reading.specs.RawTags as spec
use Rattle.htmd_commonmark_reader.specs.Tags.{place_of}
use Rattle.htmd_commonmark_reader.proofs.raw_tags.tag_rest.Given as goal

abbrev pub invariant-loop-len : goal.invariant-loop-len
invariant-loop-len l =
    in_front_of (take l.len l.text) (spec.tag_rest (place_of l.place) (drop l.len l.text))
    ≡ spec.tag_rest spec.in_tag_name l.text

-- The signs didn't stand so far.
use Rattle.std.proofs.Common.{◌≡◌, take, drop}
use Rattle.htmd_commonmark_reading.specs.Characters.{in_front_of}
use Rattle.htmd_commonmark_reading.specs.RawTags as spec
use Rattle.htmd_commonmark_reader.proofs.raw_tags.through.Given as goal

abbrev pub invariant-loop-len : goal.invariant-loop-len
invariant-loop-len l =
    in_front_of (take l.len l.text) (spec.through l.signs (drop l.len l.text)) ≡ spec.through l.signs l.text

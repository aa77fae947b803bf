-- The text so far is that of the bytes so far.
use Rattle.std.proofs.Common.{◌≡◌, string_bytes, take}
use Rattle.htmd_encodings.specs.Decoding as spec
use Rattle.htmd_encodings.proofs.decoding.text_by.Given as goal

abbrev pub invariant-loop-byte : goal.invariant-loop-byte
invariant-loop-byte l = string_bytes l.text ≡ spec.text_by l.index (take l.byte-index l.bytes)

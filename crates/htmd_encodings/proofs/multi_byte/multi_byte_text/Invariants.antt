-- The text so far, and then that of the bytes that are left, is the whole text.
use Rattle.std.proofs.Common.{◌≡◌, ◌++◌, encode_utf8_all, length, string_bytes}
use Rattle.htmd_encodings.specs.MultiByte.{multi_byte_text}
use Rattle.htmd_encodings.proofs.multi_byte.multi_byte_text.Given as goal

abbrev pub invariant-loop-rest : goal.invariant-loop-rest
invariant-loop-rest l =
    string_bytes l.text ++ multi_byte_text l.encoding l.rest ≡ multi_byte_text l.encoding l.bytes

abbrev pub decreases-loop-rest : goal.decreases-loop-rest
decreases-loop-rest l = length l.rest

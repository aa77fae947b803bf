-- The text so far, and then that of the bytes that are left, is the whole text.
use Rattle.std.proofs.Common.{◌≡◌, ◌++◌, encode_utf8_all, length, string_bytes}
use Rattle.htmd_encodings.specs.Iso2022Jp.{characters_in, iso_2022_jp_text}
use Rattle.htmd_encodings.proofs.iso_2022_jp.iso_2022_jp_text.Given as goal

abbrev pub invariant-loop-rest : goal.invariant-loop-rest
invariant-loop-rest l =
    string_bytes l.text ++ encode_utf8_all (characters_in l.mode l.is_escaped 0 l.rest) ≡ iso_2022_jp_text l.bytes

abbrev pub decreases-loop-rest : goal.decreases-loop-rest
decreases-loop-rest l = length l.rest

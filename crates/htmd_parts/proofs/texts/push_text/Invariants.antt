-- What was put so far and what is to come.
use Rattle.std.proofs.Common.{◌≡◌, ◌++◌, string_bytes}
use Rattle.std.specs.Str.Iter.{chars_rest}
use Rattle.htmd_commonmark_reading.specs.Rendering.{escaped}
use Rattle.htmd_parts.proofs.texts.push_text.Given as goal

abbrev pub invariant-loop-c : goal.invariant-loop-c
invariant-loop-c l =
    string_bytes l.out ++ escaped (chars_rest l.c-iterator) ≡ string_bytes l.fn.out ++ escaped l.text

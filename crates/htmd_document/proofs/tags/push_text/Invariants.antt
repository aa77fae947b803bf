-- What was put so far and what is to come.
use Rattle.std.proofs.Common.{◌≡◌, ◌++◌, string_bytes}
use Rattle.std.specs.Str.Iter.{chars_rest}
use Rattle.htmd_document.specs.Tags.{escaped_text}
use Rattle.htmd_document.proofs.tags.push_text.Given as goal

abbrev pub invariant-loop-c : goal.invariant-loop-c
invariant-loop-c l = string_bytes l.out ++ escaped_text (chars_rest l.c-iterator)
    ≡ string_bytes l.fn.out ++ escaped_text l.text

-- What the loop of `push_text` keeps.
use Rattle.std.proofs.Common.{◌≡◌, ◌++◌, string_bytes}
use Rattle.std.specs.Str.Iter.{chars_rest}
use Rattle.htmd_values.specs.Serialisation.{text_byte, escaped_html}
use Rattle.htmd_nodes.proofs.serialiser.push_text.Given as goal

abbrev pub invariant-loop-c : goal.invariant-loop-c
invariant-loop-c l = string_bytes l.out ++ escaped_html text_byte (chars_rest l.c-iterator) ≡ string_bytes l.fn.out
    ++ escaped_html text_byte l.text

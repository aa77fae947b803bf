-- What was put so far and what is to come, and that nothing before it has changed.
use Rattle.std.proofs.Common.{◌≡◌, ◌++◌, string_bytes}
use Rattle.std.specs.Str.Iter.{chars_rest}
use Rattle.htmd_text.specs.Beginnings.{IsBeginning}
use Rattle.htmd_values.specs.Serialisation.{value_byte, escaped_html}
use Rattle.htmd_nodes.proofs.serialiser.push_value.Given as goal

abbrev pub invariant-loop-c : goal.invariant-loop-c
invariant-loop-c l = record {
  whole : string_bytes l.out ++ escaped_html value_byte (chars_rest l.c-iterator)
      ≡ string_bytes l.fn.out ++ escaped_html value_byte l.value;
  kept : IsBeginning (string_bytes l.fn.out) (string_bytes l.out);
}

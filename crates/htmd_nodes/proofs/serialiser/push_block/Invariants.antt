-- What the loop of `push_block` keeps.
use Rattle.std.proofs.Common.{◌≡◌, ◌++◌, false, length, string_bytes}
use Rattle.std.specs.Str.{IsUtf8, chars, encode_utf8_all}
use Rattle.std.specs.Str.Iter.{chars_rest}
use Rattle.htmd_values.specs.RawBlocks.{without_blank_lines}
use Rattle.htmd_nodes.proofs.serialiser.push_block.Given as goal

abbrev pub invariant-loop-c : goal.invariant-loop-c
invariant-loop-c l = record {
  utf8 : IsUtf8 (chars_rest l.chars);
  rest : string_bytes l.out ++ encode_utf8_all (without_blank_lines l.after (chars (chars_rest l.chars)))
      ≡ string_bytes l.fn.out ++ encode_utf8_all (without_blank_lines false (chars l.fn.text));
}

abbrev pub decreases-loop-c : goal.decreases-loop-c
decreases-loop-c l = length (chars_rest l.chars)

-- What the loop of `has_blank_line` keeps.
use Rattle.std.proofs.Common.{◌≡◌}
use Rattle.std.specs.Str.{IsUtf8, chars}
use Rattle.std.specs.Str.Iter.{chars_rest}
use Rattle.htmd_values.specs.SerialiserSteps.{has_blank_line_from, has_blank_line}
use Rattle.htmd_nodes.proofs.serialiser.has_blank_line.Given as goal

abbrev pub invariant-loop-c : goal.invariant-loop-c
invariant-loop-c l = record {
  utf8 : IsUtf8 (chars_rest l.c-iterator);
  rest : has_blank_line_from l.behind (chars (chars_rest l.c-iterator)) ≡ has_blank_line (chars l.fn.text);
}

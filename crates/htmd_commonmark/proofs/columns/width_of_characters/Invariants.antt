-- With the characters to come, the width so far is the whole.
use Rattle.std.proofs.Common.{◌≡◌, ◌+◌}
use Rattle.std.specs.List.{sum_by}
use Rattle.std.specs.Str.{IsUtf8, chars}
use Rattle.std.specs.Str.Iter.{chars_rest}
use Rattle.htmd_commonmark.specs.Columns.{columns_of, width_of}
use Rattle.htmd_commonmark.proofs.columns.width_of_characters.Given as goal

abbrev pub invariant-loop-c : goal.invariant-loop-c
invariant-loop-c l = record {
  utf8 : IsUtf8 (chars_rest l.c-iterator);
  whole : l.width + sum_by columns_of (chars (chars_rest l.c-iterator)) ≡ width_of l.text;
}

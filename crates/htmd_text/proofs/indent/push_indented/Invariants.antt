-- What the loop of `push_indented` keeps.
use Rattle.std.proofs.Common.{◌≡◌, ◌==◌, ◌++◌, length, map, take}
use Rattle.std.specs.Str.Lines.{lines}
use Rattle.std.specs.String.{string_bytes}
use Rattle.htmd_text.specs.Indents.{indented_lines, line_text}
use Rattle.htmd_text.proofs.indent.push_indented.Given as goal

abbrev pub invariant-loop-line : goal.invariant-loop-line
invariant-loop-line l = record {
  written : string_bytes l.out ≡ string_bytes l.fn.out ++ indented_lines l.indent
      (map (line_text l.trim_line_end) (take (length l.yielded) (lines l.text)));
  begun : l.is_first ≡ (length l.yielded == 0);
}

use Rattle.std.proofs.Common.{◌≡◌, ◌==◌, ◌++◌, length, take}
use Rattle.std.specs.Str.Lines.{lines}
use Rattle.std.specs.String.{string_bytes}
use Rattle.htmd_markdown.specs.Quotes as spec
use Rattle.htmd_markdown.proofs.quote.push_quoted_lines.Given as goal

abbrev pub invariant-loop-line : goal.invariant-loop-line
invariant-loop-line l = record {
  written : string_bytes l.text ≡ string_bytes l.fn.text ++ spec.quoted_lines
      (take (length l.yielded) (lines l.content));
  begun : l.is_first ≡ (length l.yielded == 0);
}

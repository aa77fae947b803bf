-- The lines so far, each after four spaces.
use Rattle.std.proofs.Common.{◌≡◌, [], ◌∷◌, length, map, take}
use Rattle.std.specs.Prelude.{◌==◌}
use Rattle.std.specs.Str.Lines.{lines}
use Rattle.std.specs.String.{string_bytes}
use Rattle.htmd_lexical.specs.Characters.{line_feed}
use Rattle.htmd_text.specs.Joins.{joined_texts}
use Rattle.htmd_markdown.specs.CodeBlocks.{code_of}
use Rattle.htmd_markdown.specs.IndentedCode.{indented_line}
use Rattle.htmd_markdown.proofs.indented_code.write_indented_code.Given as goal

abbrev pub invariant-loop-line : goal.invariant-loop-line
invariant-loop-line l = record {
  written : string_bytes l.block ≡ joined_texts (line_feed ∷ [])
      (map indented_line (take (length l.yielded) (lines (code_of l.content))));
  begun : l.is_first ≡ (length l.yielded == 0);
}

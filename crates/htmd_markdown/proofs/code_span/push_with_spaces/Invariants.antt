-- The lines so far, with a space between each two.
use Rattle.std.proofs.Common.{◌≡◌, [], ◌∷◌, ◌++◌, length, map, take}
use Rattle.std.specs.Prelude.{◌==◌}
use Rattle.std.specs.List.{slice_split}
use Rattle.std.specs.String.{string_bytes}
use Rattle.htmd_lexical.specs.Characters.{line_feed, space}
use Rattle.htmd_text.specs.Joins.{joined_texts}
use Rattle.htmd_markdown.proofs.code_span.push_with_spaces.Given as goal

abbrev pub invariant-loop-line : goal.invariant-loop-line
invariant-loop-line l = record {
  written : string_bytes l.span ≡ string_bytes l.fn.span ++ joined_texts (space ∷ [])
      (map (λ line. line) (take (length l.yielded) (slice_split (λ b. b == line_feed) l.text)));
  begun : l.is_first ≡ (length l.yielded == 0);
}

-- The parts so far, with an escaped bar between each two.
use Rattle.std.proofs.Common.{◌≡◌, [], ◌++◌, codes, length, map, take}
use Rattle.std.specs.Prelude.{◌==◌}
use Rattle.std.specs.List.{slice_split}
use Rattle.std.specs.String.{string_bytes}
use Rattle.htmd_lexical.specs.Characters.{vertical_bar}
use Rattle.htmd_text.specs.Joins.{joined_texts}
use Rattle.htmd_commonmark.proofs.table.with_escaped_bars.Given as goal

abbrev pub invariant-loop-part : goal.invariant-loop-part
invariant-loop-part l = record {
  written : string_bytes l.escaped ≡ [] ++ joined_texts (codes "\\|")
      (map (λ part. part) (take (length l.yielded) (slice_split (λ b. b == vertical_bar) l.text)));
  begun : l.is_first ≡ (length l.yielded == 0);
}

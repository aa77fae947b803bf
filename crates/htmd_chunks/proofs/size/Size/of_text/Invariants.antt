-- The lines so far.
use Rattle.std.proofs.Common.{◌≡◌, length, take}
use Rattle.std.specs.Prelude.{not}
use Rattle.std.specs.List.{count_by, slice_split}
use Rattle.htmd_lexical.specs.CharacterClasses.{is_empty}
use Rattle.htmd_text.specs.Trims.{is_line_feed}
use Rattle.htmd_chunks.proofs.size.Size.of_text.Given as goal

abbrev pub invariant-loop-line : goal.invariant-loop-line
invariant-loop-line l =
    let lines = take (length l.yielded) (slice_split is_line_feed l.text) in
    record {
      full : l.full ≡ count_by (λ line. not (is_empty line)) lines;
      empty : l.empty ≡ count_by is_empty lines;
    }

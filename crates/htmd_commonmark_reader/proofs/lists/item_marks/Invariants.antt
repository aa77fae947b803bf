-- What is known of the blocks from one on.
use Rattle.std.proofs.Common.{◌≡◌, ◌≤◌, drop, length}
use Rattle.htmd_commonmark_reader.specs.ClosedParts.{parts_of}
use Rattle.htmd_commonmark_reader.specs.ItemMarks.{survey_of, survey}
use Rattle.htmd_commonmark_reader.proofs.lists.item_marks.Given as goal

abbrev pub invariant-loop-count : goal.invariant-loop-count
invariant-loop-count l = record {
  within : l.count ≤ length l.blocks;
  known : survey_of l.survey ≡ survey (parts_of (drop l.count l.blocks));
}

abbrev pub decreases-loop-count : goal.decreases-loop-count
decreases-loop-count l = l.count

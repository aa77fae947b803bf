-- The box after the lines so far, and those that are left.
use Rattle.std.proofs.Common.{◌≡◌, ◌*◌, ◌≤◌, false, length}
use denote.Text.{Utf8}
use denote.Shadow.{shadow}
use Rattle.htmd_commonmark_reading.specs.Boxes.{Box, box, no_closed_blocks, nothing}
use Rattle.htmd_commonmark_reading.specs.Containers.{fed_all}
use Rattle.htmd_commonmark_reading.specs.Lines.{placed, split_lines}
use Rattle.htmd_commonmark_reader.specs.LineViews.{widest}
use Rattle.htmd_commonmark_reader.specs.OpenBlocks.{HoldsBox, nothing_before}
use Rattle.htmd_commonmark_reader.proofs.blocks.closed_text.Given as goal

abbrev pub invariant-loop-rest : goal.invariant-loop-rest
invariant-loop-rest l = record {
  text : shadow (Utf8 l.rest);
  short : 4 * length l.rest ≤ widest;
  held : (b : Box) × HoldsBox nothing_before b l.blocks
      × (fed_all b (placed (split_lines l.rest))
      ≡ fed_all (box no_closed_blocks false nothing) (placed (split_lines l.text)));
}

abbrev pub decreases-loop-rest : goal.decreases-loop-rest
decreases-loop-rest l = length l.rest

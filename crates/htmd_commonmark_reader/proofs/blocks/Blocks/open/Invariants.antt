-- What is left to begin, behind the containers that began.
use Rattle.std.proofs.Common.{◌≡◌, ◌<◌, Bool, true, length}
use Rattle.htmd_commonmark_reading.specs.Boxes.{ClosedBlocks, nothing}
use Rattle.htmd_commonmark_reading.specs.Lines.{marks}
use Rattle.htmd_commonmark_reader.specs.BulletRuns.{is_mixed, IsBehind}
use Rattle.htmd_commonmark_reader.specs.LineStarts.{start_of, IsHeld}
use Rattle.htmd_commonmark_reader.specs.LineViews.{line_of, IsLine}
use Rattle.htmd_commonmark_reader.specs.OpenBlocks.{Before, Holds, open_kinds}
use Rattle.htmd_commonmark_reader.proofs.OpenBlocksLemmas.{Reach, start_open}
use Rattle.htmd_commonmark_reader.proofs.blocks.Blocks.open.Given as goal

abbrev pub invariant-loop-inner : goal.invariant-loop-inner
invariant-loop-inner l = record {
  line : IsLine l.rest;
  held : IsHeld l.next;
  reach : (p : Before) (done : ClosedBlocks) (g : Bool) → Holds p done g nothing l.fn.self
      → Reach p done g (line_of l.fn.line) (start_of (line_of l.fn.line) l.fn.start) (line_of l.rest)
      (start_of (line_of l.rest) l.next) l.self;
  known : 0 < l.bullets → (is_mixed l.bullets (marks ((line_of l.rest).text)) ≡ true)
      × IsBehind (marks ((line_of l.rest).text)) l.next;
}

abbrev pub decreases-loop-inner : goal.decreases-loop-inner
decreases-loop-inner l = length (open_kinds (start_open (start_of (line_of l.rest) l.next)))

-- What the containers from here on take of the rest.
use Rattle.std.proofs.Common.{◌≡◌, ◌+◌, map, drop}
use Rattle.htmd_commonmark_reader.specs.ClosedParts.{kind_of}
use Rattle.htmd_commonmark_reader.specs.LineViews.{line_of, IsLine}
use Rattle.htmd_commonmark_reader.specs.OpenBlocks.{passed}
use Rattle.htmd_commonmark_reader.specs.Quotes.{quote_count}
use Rattle.htmd_commonmark_reader.proofs.containers.take_line.Given as goal

abbrev pub invariant-loop-depth : goal.invariant-loop-depth
invariant-loop-depth l = record {
  count : (passed (map kind_of l.boxes) l.is_empty (line_of l.line)).count
      ≡ l.depth + (passed (map kind_of (drop l.depth l.boxes)) l.is_empty (line_of l.rest)).count;
  rest : (passed (map kind_of l.boxes) l.is_empty (line_of l.line)).rest
      ≡ (passed (map kind_of (drop l.depth l.boxes)) l.is_empty (line_of l.rest)).rest;
  held : IsLine l.rest;
  left : l.left ≡ quote_count (map kind_of (drop l.depth l.boxes));
}

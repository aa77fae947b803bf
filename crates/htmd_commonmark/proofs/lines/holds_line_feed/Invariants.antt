-- What the loop of `holds_line_feed` keeps.
use Rattle.std.proofs.Common.{◌≡◌, ◌≤◌, take}
use Rattle.std.specs.Prelude.{◌==◌}
use Rattle.std.specs.List.{list_any}
use Rattle.htmd_text.specs.Trims.{is_line_feed}
use Rattle.htmd_commonmark.proofs.lines.holds_line_feed.Given as goal

abbrev pub invariant-loop-b : goal.invariant-loop-b
invariant-loop-b l = record {
  bound : l.found ≤ 1;
  value : (l.found == 1) ≡ list_any is_line_feed (take l.b-index l.bytes);
}

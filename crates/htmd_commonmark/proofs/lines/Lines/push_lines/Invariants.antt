-- With the line and what follows, the whole is written.
use Rattle.std.proofs.Common.{◌≡◌, ◌≤◌, false, drop}
use Rattle.std.specs.List.{between, list_any}
use Rattle.std.specs.Str.{IsCharBoundary}
use Rattle.htmd_text.specs.Trims.{is_line_feed}
use Rattle.htmd_commonmark.specs.Pages.{wrote}
use Rattle.htmd_commonmark.proofs.lines.Lines.push_lines.Given as goal

abbrev pub invariant-loop-i : goal.invariant-loop-i
invariant-loop-i l = record {
  within : l.from ≤ l.i;
  cut : IsCharBoundary l.text l.from;
  line : list_any is_line_feed (between l.from l.i l.text) ≡ false;
  written : wrote l.self (drop l.from l.text) ≡ wrote l.fn.self l.text;
}

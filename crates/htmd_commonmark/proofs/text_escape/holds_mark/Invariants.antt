-- What the loop of `holds_mark` keeps.
use Rattle.std.proofs.Common.{◌≡◌, ◌≤◌, take}
use Rattle.std.specs.Prelude.{◌==◌}
use Rattle.std.specs.List.{list_any}
use Rattle.htmd_commonmark.specs.PlainTexts.{may_be_marked}
use Rattle.htmd_commonmark.proofs.text_escape.holds_mark.Given as goal

abbrev pub invariant-loop-b : goal.invariant-loop-b
invariant-loop-b l = record {
  bound : l.found ≤ 1;
  value : (l.found == 1) ≡ list_any may_be_marked (take l.b-index l.bytes);
}

-- What the loop of `holds_unshown_byte` keeps.
use Rattle.std.proofs.Common.{◌≡◌, ◌≤◌, take}
use Rattle.std.specs.Prelude.{◌==◌}
use Rattle.std.specs.List.{list_any}
use Rattle.htmd_shown.specs.TextViews.{is_unshown_byte}
use Rattle.htmd_shown.proofs.shown_text.holds_unshown_byte.Given as goal

abbrev pub invariant-loop-b : goal.invariant-loop-b
invariant-loop-b l = record {
  bound : l.found ≤ 1;
  value : (l.found == 1) ≡ list_any is_unshown_byte (take l.b-index l.bytes);
}

-- What the loop of `holds_space_or_control` keeps.
use Rattle.std.proofs.Common.{◌≡◌, ◌≤◌, take}
use Rattle.std.specs.Prelude.{◌==◌}
use Rattle.std.specs.List.{list_any}
use Rattle.htmd_commonmark.specs.Addresses.{is_space_or_control}
use Rattle.htmd_commonmark.proofs.address.holds_space_or_control.Given as goal

abbrev pub invariant-loop-b : goal.invariant-loop-b
invariant-loop-b l = record {
  bound : l.found ≤ 1;
  value : (l.found == 1) ≡ list_any is_space_or_control (take l.b-index l.bytes);
}

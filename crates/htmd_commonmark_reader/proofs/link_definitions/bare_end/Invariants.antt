-- What is looked for is found from here on.
use Rattle.std.proofs.Common.{◌≡◌, ◌≤◌, false, take, drop}
use Rattle.htmd_commonmark_reading.specs.LinkDefinitions.{bare}
use Rattle.htmd_commonmark_reader.specs.Fronts.{behind}
use Rattle.htmd_commonmark_reader.proofs.link_definitions.bare_end.Given as goal

abbrev pub invariant-loop-at : goal.invariant-loop-at
invariant-loop-at l = record {
  few : l.depth ≤ l.at;
  same : behind (take l.at l.bytes) (bare l.depth l.is_escaped (drop l.at l.bytes)) ≡ bare 0 false l.bytes;
}

-- What the loop of `holds` keeps.
use Rattle.std.proofs.Common.{◌≡◌, ◌≤◌, take}
use Rattle.std.specs.Prelude.{◌==◌}
use Rattle.std.specs.List.{list_any}
use Rattle.htmd_markdown.proofs.runs.holds.Given as goal

abbrev pub invariant-loop-b : goal.invariant-loop-b
invariant-loop-b l = record {
  bound : l.found ≤ 1;
  value : (l.found == 1) ≡ list_any (λ b. b == l.character) (take l.b-index l.bytes);
}

use Rattle.std.proofs.Common.{◌≡◌, ◌+◌, ◌≤◌, drop, map, length}
use Rattle.std.specs.List.{prefix_len}
use Rattle.htmd_flow.specs.ItemViews.{goes_on}
use Rattle.htmd_shown.specs.SimpleViews.{simple_of}
use Rattle.htmd_flow.proofs.items.items_len.Given as goal

abbrev pub invariant-loop-len : goal.invariant-loop-len
invariant-loop-len l = record {
  bound : l.len ≤ length l.nodes;
  value : l.len + prefix_len goes_on (map simple_of (drop l.len l.nodes))
      ≡ prefix_len goes_on (map simple_of l.nodes);
}

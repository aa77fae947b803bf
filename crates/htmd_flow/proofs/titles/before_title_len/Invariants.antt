use Rattle.std.proofs.Common.{◌≡◌, ◌+◌, ◌≤◌, drop, map, length}
use Rattle.std.specs.List.{prefix_len}
use Rattle.htmd_flow.specs.TitleViews.{is_no_title}
use Rattle.htmd_shown.specs.SimpleViews.{simple_of}
use Rattle.htmd_flow.proofs.titles.before_title_len.Given as goal

abbrev pub invariant-loop-len : goal.invariant-loop-len
invariant-loop-len l = record {
  bound : l.len ≤ length l.nodes;
  value : l.len + prefix_len (is_no_title l.title) (map simple_of (drop l.len l.nodes))
      ≡ prefix_len (is_no_title l.title) (map simple_of l.nodes);
}

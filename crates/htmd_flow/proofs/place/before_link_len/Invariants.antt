use Rattle.std.proofs.Common.{◌≡◌, ◌+◌, ◌≤◌, drop, length}
use Rattle.std.specs.List.{prefix_len}
use Rattle.htmd_flow.specs.FlowViews.{is_no_link}
use Rattle.htmd_flow.proofs.place.before_link_len.Given as goal

abbrev pub invariant-loop-len : goal.invariant-loop-len
invariant-loop-len l = record {
  bound : l.len ≤ length l.around;
  value : l.len + prefix_len is_no_link (drop l.len l.around) ≡ prefix_len is_no_link l.around;
}

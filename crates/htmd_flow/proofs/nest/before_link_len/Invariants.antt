-- No link so far.
use Rattle.std.proofs.Common.{◌≡◌, ◌+◌, ◌≤◌, drop, length}
use Rattle.std.specs.List.{prefix_len}
use Rattle.htmd_flow.specs.NestViews.{is_format_frame}
use Rattle.htmd_flow.proofs.nest.before_link_len.Given as goal

abbrev pub invariant-loop-len : goal.invariant-loop-len
invariant-loop-len l = record {
  bound : l.len ≤ length l.frames;
  value : l.len + prefix_len is_format_frame (drop l.len l.frames) ≡ prefix_len is_format_frame l.frames;
}

-- What the loop of `same_names` keeps.
use Rattle.std.proofs.Common.{◌≡◌, ◌+◌, ◌-◌, ◌≤◌, drop, length}
use Rattle.std.specs.List.{common_prefix_len}
use Rattle.std.specs.Str.{bytes_eq}
use Rattle.htmd_addresses.specs.PageViews.{names_of}
use Rattle.htmd_addresses.proofs.paths.same_names.Given as goal

abbrev pub invariant-loop-same : goal.invariant-loop-same
invariant-loop-same l = record {
  within_from : l.same ≤ length l.from;
  within_to : l.same ≤ length l.to;
  passed : l.same + common_prefix_len bytes_eq (names_of (drop l.same l.from)) (names_of (drop l.same l.to))
      ≡ common_prefix_len bytes_eq (names_of l.from) (names_of l.to);
}

abbrev pub decreases-loop-same : goal.decreases-loop-same
decreases-loop-same l = length l.from - l.same

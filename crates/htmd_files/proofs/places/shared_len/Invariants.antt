-- What is shared so far, and what the rest shares.
use Rattle.std.proofs.Common.{◌≡◌, ◌+◌, ◌-◌, ◌≤◌, length, drop}
use Rattle.std.specs.List.{common_prefix_len}
use Rattle.htmd_files.proofs.PathsLemmas.{same_name}
use Rattle.htmd_files.proofs.places.shared_len.Given as goal

abbrev pub invariant-loop-len : goal.invariant-loop-len
invariant-loop-len l = record {
  in_a : l.len ≤ length l.a;
  in_b : l.len ≤ length l.b;
  so_far : l.len + common_prefix_len same_name (drop l.len l.a) (drop l.len l.b)
      ≡ common_prefix_len same_name l.a l.b;
}

abbrev pub decreases-loop-len : goal.decreases-loop-len
decreases-loop-len l = length l.a - l.len

-- What the loop of `trailing_len` keeps.
use Rattle.std.proofs.Common.{◌≡◌, ◌==◌, ◌+◌, ◌≤◌, length, take}
use Rattle.std.specs.List.{suffix_len}
use Rattle.htmd_text.proofs.repeats.trailing_len.Given as goal

abbrev pub invariant-loop-end : goal.invariant-loop-end
invariant-loop-end l = record {
  within : l.end ≤ length l.bytes;
  passed : l.end + suffix_len (λ b. b == l.byte) l.bytes ≡ length l.bytes + suffix_len (λ b. b == l.byte)
      (take l.end l.bytes);
}

abbrev pub decreases-loop-end : goal.decreases-loop-end
decreases-loop-end l = l.end

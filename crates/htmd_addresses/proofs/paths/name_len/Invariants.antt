-- What the loop of `name_len` keeps.
use Rattle.std.proofs.Common.{◌≡◌, ◌==◌, ◌+◌, ◌≤◌, length, not, take}
use Rattle.std.specs.List.{suffix_len}
use Rattle.htmd_lexical.specs.Characters.{slash}
use Rattle.htmd_addresses.proofs.paths.name_len.Given as goal

abbrev pub invariant-loop-end : goal.invariant-loop-end
invariant-loop-end l = record {
  within : l.end ≤ length l.path;
  passed : l.end + suffix_len (λ b. not (b == slash)) l.path ≡ length l.path + suffix_len (λ b. not (b == slash))
      (take l.end l.path);
}

abbrev pub decreases-loop-end : goal.decreases-loop-end
decreases-loop-end l = l.end

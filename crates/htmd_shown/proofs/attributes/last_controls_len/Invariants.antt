use Rattle.std.proofs.Common.{◌≡◌, ◌+◌, ◌≤◌, length, take}
use Rattle.std.specs.List.{suffix_len}
use Rattle.htmd_shown.specs.Attributes.{is_space_or_control}
use Rattle.htmd_shown.proofs.attributes.last_controls_len.Given as goal

abbrev pub invariant-loop-end : goal.invariant-loop-end
invariant-loop-end l = record {
  within : l.end ≤ length l.text;
  passed : l.end + suffix_len is_space_or_control l.text ≡ length l.text
      + suffix_len is_space_or_control (take l.end l.text);
}

abbrev pub decreases-loop-end : goal.decreases-loop-end
decreases-loop-end l = l.end

-- What the loop of `raw_content_len` keeps.
use Rattle.std.proofs.Common.{◌≡◌, ◌≤◌, ◌+◌, ◌-◌, length, drop}
use Rattle.htmd_lexical.specs.CharacterClasses.{up_to}
use Rattle.htmd_lexical.specs.EndTags.{begins_own_end}
use Rattle.htmd_scanning.proofs.end_tags.raw_content_len.Given as goal

abbrev pub invariant-loop-len : goal.invariant-loop-len
invariant-loop-len l = record {
  within : l.len ≤ length l.bytes;
  passed : l.len + length (up_to (begins_own_end l.name) (drop l.len l.bytes))
      ≡ length (up_to (begins_own_end l.name) l.bytes);
}

abbrev pub decreases-loop-len : goal.decreases-loop-len
decreases-loop-len l = length l.bytes - l.len

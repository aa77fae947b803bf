-- What the loop of `comment_len` keeps.
use Rattle.std.proofs.Common.{◌≡◌, ◌≤◌, ◌+◌, ◌-◌, length, drop, codes}
use Rattle.htmd_lexical.specs.CharacterClasses.{begins_with, up_to}
use Rattle.htmd_tree.proofs.reader.comments.comment_len.Given as goal

abbrev pub invariant-loop-len : goal.invariant-loop-len
invariant-loop-len l = record {
  within : l.len ≤ length l.bytes;
  passed : l.len + length (up_to (begins_with (codes "-->")) (drop l.len l.bytes))
      ≡ length (up_to (begins_with (codes "-->")) l.bytes);
}

abbrev pub decreases-loop-len : goal.decreases-loop-len
decreases-loop-len l = length l.bytes - l.len

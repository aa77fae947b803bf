-- What the loop of `literal_len` keeps.
use Rattle.std.proofs.Common.{◌≡◌, ◌≤◌, ◌+◌, ◌-◌, length, drop}
use Rattle.htmd_lexical.specs.CharacterClasses.{leading_run}
use Rattle.htmd_tree.specs.TextRuns.{is_literal}
use Rattle.htmd_tree.proofs.reader.texts.literal_len.Given as goal

abbrev pub invariant-loop-len : goal.invariant-loop-len
invariant-loop-len l = record {
  within : l.len ≤ length l.bytes;
  passed : l.len + length (leading_run (is_literal l.parts) (drop l.len l.bytes))
      ≡ length (leading_run (is_literal l.parts) l.bytes);
}

abbrev pub decreases-loop-len : goal.decreases-loop-len
decreases-loop-len l = length l.bytes - l.len

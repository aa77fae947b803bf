-- What the loop of `literal_blocks_len` keeps.
use Rattle.std.proofs.Common.{◌≡◌, ◌≤◌, ◌+◌, ◌-◌, length, drop}
use Rattle.htmd_lexical.specs.CharacterClasses.{leading_run}
use Rattle.htmd_html5_tokens.specs.AppendedCharacters.{is_literal}
use Rattle.htmd_html5_tokens.specs.declared.contents.Reading.TheVariants.{Text}
use Rattle.htmd_html5_tokens.proofs.contents.literal_blocks_len.Given as goal

abbrev pub invariant-loop-len : goal.invariant-loop-len
invariant-loop-len l = record {
  within : l.len ≤ length l.bytes;
  passed : l.len + length (leading_run (is_literal Text) (drop l.len l.bytes))
      ≡ length (leading_run (is_literal Text) l.bytes);
}

abbrev pub decreases-loop-len : goal.decreases-loop-len
decreases-loop-len l = length l.bytes - l.len

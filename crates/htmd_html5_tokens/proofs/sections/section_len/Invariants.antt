-- What the loop of `section_len` keeps.
use Rattle.std.proofs.Common.{◌≡◌, ◌≤◌, ◌+◌, ◌-◌, length, drop}
use Rattle.htmd_lexical.specs.CharacterClasses.{up_to}
use Rattle.htmd_html5_tokens.specs.NextToken.{ends_section}
use Rattle.htmd_html5_tokens.proofs.sections.section_len.Given as goal

abbrev pub invariant-loop-len : goal.invariant-loop-len
invariant-loop-len l = record {
  within : l.len ≤ length l.bytes;
  passed : l.len + length (up_to ends_section (drop l.len l.bytes)) ≡ length (up_to ends_section l.bytes);
}

abbrev pub decreases-loop-len : goal.decreases-loop-len
decreases-loop-len l = length l.bytes - l.len

-- What the loop of `comment_len` keeps.
use Rattle.std.proofs.Common.{◌≡◌, ◌≤◌, ◌+◌, ◌-◌, length, drop}
use Rattle.htmd_lexical.specs.CharacterClasses.{up_to}
use Rattle.htmd_html5_tokens.specs.Comments.{ends_comment}
use Rattle.htmd_html5_tokens.proofs.comments.comment_len.Given as goal

abbrev pub invariant-loop-len : goal.invariant-loop-len
invariant-loop-len l = record {
  within : l.len ≤ length l.bytes;
  passed : l.len + length (up_to ends_comment (drop l.len l.bytes)) ≡ length (up_to ends_comment l.bytes);
}

abbrev pub decreases-loop-len : goal.decreases-loop-len
decreases-loop-len l = length l.bytes - l.len

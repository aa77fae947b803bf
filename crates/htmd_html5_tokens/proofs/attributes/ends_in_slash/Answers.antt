-- The last character.
use Rattle.std.proofs.Common.{sym}
use Rattle.htmd_html5_tokens.proofs.TagsLemmas.{ends_last}
use Rattle.htmd_html5_tokens.proofs.attributes.ends_in_slash.Goals as goal

pub returns-in-len1-up : goal.returns-in-len1-up
returns-in-len1-up c = sym (ends_last c.args.bytes.now c.in-len1-up.len_at_least)

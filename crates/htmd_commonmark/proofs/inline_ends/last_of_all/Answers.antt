-- The last inline decides.
use Rattle.std.proofs.Common.{◌∙◌}
use Rattle.htmd_commonmark.proofs.InlineEndsLemmas.{last_of_all-is}
use Rattle.htmd_commonmark.proofs.inline_ends.last_of_all.Goals as goal

pub returns-in-len1-up : goal.returns-in-len1-up
returns-in-len1-up c =
    c.last_of.ensures ∙ last_of_all-is c.args.xs.now c.x-item.result c.in-len1-up.len_at_least c.x-item.is

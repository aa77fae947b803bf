-- The last one, and those in front of it.
use Rattle.std.proofs.Common.{◌-◌, ◌<◌, length, take, rules}
use Rattle.htmd_commonmark_reader.proofs.ClosingLemmas.{last_split}
use Rattle.htmd_commonmark_reader.proofs.steps.last_bracket.Goals as goal

pub returns-in-len1-up : goal.returns-in-len1-up
returns-in-len1-up c =
    let ks = c.args.brackets.now in
    let some : 0 < length ks = search rules in
    (take (length ks - 1) ks, last_split ks _ some)

use Rattle.std.proofs.Common.{arith}
use Rattle.htmd_shown.proofs.LineEndsLemmas.{last-feed}
use Rattle.htmd_shown.proofs.texts.ends_line.Goals as goal

pub returns-in-len1-up : goal.returns-in-len1-up
returns-in-len1-up c = last-feed c.args.text.now (omega arith)

-- The last byte decides.
use Rattle.std.proofs.Common.{arith, ◌∙◌}
use Rattle.htmd_chunks.proofs.WordStepsLemmas.{last-sign}
use Rattle.htmd_chunks.proofs.words.ends_in_sign.Goals as goal

pub returns-in-len1-up : goal.returns-in-len1-up
returns-in-len1-up c = c.is_sign.ensures ∙ last-sign c.args.text.now 0 (omega arith)

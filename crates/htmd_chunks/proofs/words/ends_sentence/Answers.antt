-- The last inline decides.
use Rattle.std.proofs.Common.{◌∙◌}
use Rattle.htmd_chunks.proofs.WordStepsLemmas.{sentence-last-inline}
use Rattle.htmd_chunks.proofs.words.ends_sentence.Goals as goal

pub returns-in-len1-up : goal.returns-in-len1-up
returns-in-len1-up c =
    c.ends_with_sign.ensures
    ∙ sentence-last-inline c.args.word.now c.x-item.result c.in-len1-up.len_at_least c.x-item.is

use Rattle.htmd_law_rendering.proofs.PairedBlocks.{seen-pairs}
use Rattle.htmd_law_rendering.proofs.rendering.seen_is_paired.Goals as goal

pub returns : goal.returns
returns c = seen-pairs

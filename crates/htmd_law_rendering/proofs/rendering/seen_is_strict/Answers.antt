use Rattle.htmd_law_rendering.proofs.StrictDocumentBlocks.{seen-strict}
use Rattle.htmd_law_rendering.proofs.rendering.seen_is_strict.Goals as goal

pub returns : goal.returns
returns c = seen-strict

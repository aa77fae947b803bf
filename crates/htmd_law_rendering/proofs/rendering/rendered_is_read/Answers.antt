use Rattle.htmd_law_rendering.proofs.StrictBlocks.{read}
use Rattle.htmd_law_rendering.proofs.rendering.rendered_is_read.Goals as goal

pub returns : goal.returns
returns c = read

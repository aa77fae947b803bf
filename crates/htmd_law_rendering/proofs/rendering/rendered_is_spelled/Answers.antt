use Rattle.htmd_law_rendering.proofs.RenderedLemmas.{rendered}
use Rattle.htmd_law_rendering.proofs.rendering.rendered_is_spelled.Goals as goal

pub returns : goal.returns
returns c = rendered

use Rattle.htmd_law_inlines.proofs.InlineLaws.{inlines_read_back}
use Rattle.htmd_law_inlines.proofs.inlines_read_back.Goals as goal

pub returns : goal.returns
returns c = inlines_read_back

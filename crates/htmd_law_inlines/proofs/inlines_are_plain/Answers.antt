use Rattle.htmd_law_inlines.proofs.InlineLaws.{inlines_are_plain}
use Rattle.htmd_law_inlines.proofs.inlines_are_plain.Goals as goal

pub returns : goal.returns
returns c = inlines_are_plain

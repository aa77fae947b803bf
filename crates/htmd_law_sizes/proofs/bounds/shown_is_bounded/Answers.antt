use Rattle.htmd_law_sizes.proofs.ShownSizes as laws
use Rattle.htmd_law_sizes.proofs.bounds.shown_is_bounded.Goals as goal

pub returns : goal.returns
returns c = laws.shown_is_bounded

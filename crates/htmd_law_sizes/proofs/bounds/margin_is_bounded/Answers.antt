use Rattle.htmd_law_sizes.proofs.FlowMargins as laws
use Rattle.htmd_law_sizes.proofs.bounds.margin_is_bounded.Goals as goal

pub returns : goal.returns
returns c = laws.margin_is_bounded

use Rattle.htmd_law_sizes.proofs.FlowCosts as laws
use Rattle.htmd_law_sizes.proofs.bounds.flow_is_bounded.Goals as goal

pub returns : goal.returns
returns c = laws.flow_is_bounded

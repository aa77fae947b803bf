use Rattle.htmd_law_sizes.proofs.PreparedSizes as laws
use Rattle.htmd_law_sizes.proofs.bounds.prepared_is_bounded.Goals as goal

pub returns : goal.returns
returns c = laws.prepared_is_bounded

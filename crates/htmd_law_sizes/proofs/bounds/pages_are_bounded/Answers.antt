use Rattle.htmd_law_sizes.proofs.PageLemmas as laws
use Rattle.htmd_law_sizes.proofs.bounds.pages_are_bounded.Goals as goal

pub returns : goal.returns
returns c = laws.pages_are_bounded

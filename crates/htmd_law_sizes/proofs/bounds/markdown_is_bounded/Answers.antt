use Rattle.htmd_law_sizes.proofs.BoundsLemmas as laws
use Rattle.htmd_law_sizes.proofs.bounds.markdown_is_bounded.Goals as goal

pub returns : goal.returns
returns c = laws.markdown_is_bounded

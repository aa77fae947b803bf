use Rattle.htmd_law_sizes.proofs.PageLemmas as laws
use Rattle.htmd_law_sizes.proofs.bounds.document_is_bounded.Goals as goal

pub returns : goal.returns
returns c = laws.document_is_bounded

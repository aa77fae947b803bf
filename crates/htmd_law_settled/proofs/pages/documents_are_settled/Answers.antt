use Rattle.htmd_law_settled.proofs.PageLemmas.{settled}
use Rattle.htmd_law_settled.proofs.pages.documents_are_settled.Goals as goal

pub returns : goal.returns
returns c = settled

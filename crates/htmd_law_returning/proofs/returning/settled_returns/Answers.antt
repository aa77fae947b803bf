use Rattle.htmd_law_returning.proofs.ReturnedLemmas.{returned}
use Rattle.htmd_law_returning.proofs.returning.settled_returns.Goals as goal

pub returns : goal.returns
returns c = returned

use Rattle.htmd_law_settled.proofs.StandingLemmas.{elements-stand}
use Rattle.htmd_law_settled.proofs.settled.elements_stand.Goals as goal

pub returns : goal.returns
returns c = elements-stand

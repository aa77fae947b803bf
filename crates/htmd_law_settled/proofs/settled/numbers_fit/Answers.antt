use Rattle.htmd_law_settled.proofs.NeatPages.{numbers-fit}
use Rattle.htmd_law_settled.proofs.settled.numbers_fit.Goals as goal

pub returns : goal.returns
returns c = numbers-fit

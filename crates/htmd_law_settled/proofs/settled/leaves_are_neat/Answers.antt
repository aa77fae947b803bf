use Rattle.htmd_law_settled.proofs.NeatDocuments.{leaves-neat}
use Rattle.htmd_law_settled.proofs.settled.leaves_are_neat.Goals as goal

pub returns : goal.returns
returns c = leaves-neat

use Rattle.htmd_law_trees.proofs.OneFault.{faults_are_one}
use Rattle.htmd_law_trees.proofs.grammar.faults_are_one.Goals as goal

pub returns : goal.returns
returns c = faults_are_one

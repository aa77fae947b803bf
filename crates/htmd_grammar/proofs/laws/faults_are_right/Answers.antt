use Rattle.htmd_grammar.proofs.RightFaults.{faults_are_right}
use Rattle.htmd_grammar.proofs.TextsLeft.{documents_refused, rest_is_an_end}
use Rattle.htmd_grammar.proofs.laws.faults_are_right.Goals as goal

pub returns : goal.returns
returns c = record { right = faults_are_right; refused = documents_refused; rest = rest_is_an_end }

use Rattle.htmd_law_trees.proofs.NumbersLemmas.{references_are_numbered}
use Rattle.htmd_law_trees.proofs.conversion.references_are_numbered.Goals as goal

pub returns : goal.returns
returns c = references_are_numbered

use Rattle.htmd_law_trees.proofs.GroupCuts.{children_are_cut}
use Rattle.htmd_law_trees.proofs.conversion.children_are_cut.Goals as goal

pub returns : goal.returns
returns c = children_are_cut

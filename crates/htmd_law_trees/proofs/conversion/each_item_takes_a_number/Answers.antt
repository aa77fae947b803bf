use Rattle.htmd_law_trees.proofs.ListLawsLemmas.{each_item}
use Rattle.htmd_law_trees.proofs.conversion.each_item_takes_a_number.Goals as goal

pub returns : goal.returns
returns c = each_item

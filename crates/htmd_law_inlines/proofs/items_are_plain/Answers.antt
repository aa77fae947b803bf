use Rattle.htmd_law_inlines.proofs.ItemLaws.{items_are_plain}
use Rattle.htmd_law_inlines.proofs.items_are_plain.Goals as goal

pub returns : goal.returns
returns c = items_are_plain

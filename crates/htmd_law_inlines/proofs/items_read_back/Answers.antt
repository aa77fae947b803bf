use Rattle.htmd_law_inlines.proofs.ItemLaws.{items_read_back}
use Rattle.htmd_law_inlines.proofs.items_read_back.Goals as goal

pub returns : goal.returns
returns c = items_read_back

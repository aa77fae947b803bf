use Rattle.htmd_law_inlines.proofs.TextLaws.{texts_read_back}
use Rattle.htmd_law_inlines.proofs.texts_read_back.Goals as goal

pub returns : goal.returns
returns c = texts_read_back

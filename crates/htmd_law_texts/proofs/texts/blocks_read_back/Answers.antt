use Rattle.htmd_law_texts.proofs.DocumentLaws as laws
use Rattle.htmd_law_texts.proofs.texts.blocks_read_back.Goals as goal

pub returns : goal.returns
returns c = laws.blocks_read_back

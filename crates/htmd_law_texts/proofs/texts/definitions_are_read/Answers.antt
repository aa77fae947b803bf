use Rattle.htmd_law_texts.proofs.DocumentLaws as laws
use Rattle.htmd_law_texts.proofs.texts.definitions_are_read.Goals as goal

pub returns : goal.returns
returns c = laws.definitions_are_read

use Rattle.htmd_law_texts.proofs.DocumentLaws as laws
use Rattle.htmd_law_texts.proofs.texts.texts_are_lines.Goals as goal

pub returns : goal.returns
returns c = laws.texts_are_lines

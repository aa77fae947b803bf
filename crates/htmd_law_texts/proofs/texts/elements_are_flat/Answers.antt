use Rattle.htmd_law_texts.proofs.FlatForm as laws
use Rattle.htmd_law_texts.proofs.texts.elements_are_flat.Goals as goal

pub returns : goal.returns
returns c = laws.normal_is_flat

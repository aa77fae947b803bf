use Rattle.htmd_law_texts.proofs.NestedBlocks as laws
use Rattle.htmd_law_texts.proofs.texts.elements_are_nested.Goals as goal

pub returns : goal.returns
returns c = laws.nested_is

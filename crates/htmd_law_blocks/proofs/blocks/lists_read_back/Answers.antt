use Rattle.htmd_law_blocks.proofs.DefinitionsLemmas as laws
use Rattle.htmd_law_blocks.proofs.blocks.lists_read_back.Goals as goal

pub returns : goal.returns
returns c = laws.lists_read_back

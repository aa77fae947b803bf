use Rattle.htmd_law_blocks.proofs.DefinitionsLemmas as laws
use Rattle.htmd_law_blocks.proofs.blocks.blocks_read_back.Goals as goal

pub returns : goal.returns
returns c = laws.blocks_read_back

use Rattle.htmd_chunks.proofs.Main as laws
use Rattle.htmd_chunks.proofs.laws.pieces_join.Goals as goal

pub returns : goal.returns
returns c = laws.pieces_join

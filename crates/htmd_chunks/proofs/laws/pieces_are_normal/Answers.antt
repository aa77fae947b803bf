use Rattle.htmd_chunks.proofs.NormalPiecesLemmas.{pieces_are_normal}
use Rattle.htmd_chunks.proofs.laws.pieces_are_normal.Goals as goal

pub returns : goal.returns
returns c = pieces_are_normal

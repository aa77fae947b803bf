use Rattle.htmd_law_reading.proofs.PieceLaws as laws
use Rattle.htmd_law_reading.proofs.reading.pieces_read_back.Goals as goal

pub returns : goal.returns
returns c = laws.pieces_read_back

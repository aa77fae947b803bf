use Rattle.htmd_law_reading.proofs.PieceLaws as laws
use Rattle.htmd_law_reading.proofs.reading.page_pieces_read_back.Goals as goal

pub returns : goal.returns
returns c = laws.page_pieces_read_back

use Rattle.htmd_law_reading.proofs.LineEnds as laws
use Rattle.htmd_law_reading.proofs.reading.files_read_back.Goals as goal

pub returns : goal.returns
returns c = laws.files_read_back

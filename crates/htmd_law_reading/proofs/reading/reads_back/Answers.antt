use Rattle.htmd_law_reading.proofs.ReadingMain as laws
use Rattle.htmd_law_reading.proofs.reading.reads_back.Goals as goal

pub returns : goal.returns
returns c = laws.reads_back

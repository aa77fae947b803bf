use Rattle.htmd_law_reading.proofs.PageLaws as laws
use Rattle.htmd_law_reading.proofs.reading.pages_are_seen.Goals as goal

pub returns : goal.returns
returns c = laws.pages_are_seen

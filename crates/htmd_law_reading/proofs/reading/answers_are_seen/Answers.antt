use Rattle.htmd_law_reading.proofs.PageLaws as laws
use Rattle.htmd_law_reading.proofs.reading.answers_are_seen.Goals as goal

pub returns : goal.returns
returns c = laws.answers_are_seen

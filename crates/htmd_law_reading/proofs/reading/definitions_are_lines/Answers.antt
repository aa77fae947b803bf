use Rattle.htmd_law_reading.proofs.DefinitionLines as laws
use Rattle.htmd_law_reading.proofs.reading.definitions_are_lines.Goals as goal

pub returns : goal.returns
returns c = laws.definitions_are_lines

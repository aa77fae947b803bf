use Rattle.htmd_law_trees.proofs.OneParagraphLawsLemmas.{paragraph_reads_back}
use Rattle.htmd_law_trees.proofs.program_runs.paragraph_reads_back.Goals as goal

pub returns : goal.returns
returns c = paragraph_reads_back

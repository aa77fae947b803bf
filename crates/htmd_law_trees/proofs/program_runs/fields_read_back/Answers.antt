use Rattle.htmd_law_trees.proofs.FieldLawsLemmas.{fields_read_back}
use Rattle.htmd_law_trees.proofs.program_runs.fields_read_back.Goals as goal

pub returns : goal.returns
returns c = fields_read_back

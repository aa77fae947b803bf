use Rattle.htmd_law_trees.proofs.ContentLawsLemmas.{content_is_trimmed}
use Rattle.htmd_law_trees.proofs.conversion.content_is_trimmed.Goals as goal

pub returns : goal.returns
returns c = content_is_trimmed

use Rattle.htmd_law_trees.proofs.ContentLawsLemmas.{repeats_are_kept}
use Rattle.htmd_law_trees.proofs.conversion.repeats_are_kept.Goals as goal

pub returns : goal.returns
returns c = repeats_are_kept

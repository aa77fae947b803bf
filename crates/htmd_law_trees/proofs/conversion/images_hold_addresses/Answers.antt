use Rattle.htmd_law_trees.proofs.LinkLawsLemmas.{images_hold_addresses}
use Rattle.htmd_law_trees.proofs.conversion.images_hold_addresses.Goals as goal

pub returns : goal.returns
returns c = images_hold_addresses

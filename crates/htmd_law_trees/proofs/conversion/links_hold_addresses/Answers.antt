use Rattle.htmd_law_trees.proofs.LinkLawsLemmas.{links_hold_addresses}
use Rattle.htmd_law_trees.proofs.conversion.links_hold_addresses.Goals as goal

pub returns : goal.returns
returns c = links_hold_addresses

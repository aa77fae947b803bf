use Rattle.htmd_law_anchors.proofs.LinkReachLemmas.{links_reach}
use Rattle.htmd_law_anchors.proofs.anchors.links_reach.Goals as goal

pub returns : goal.returns
returns c = links_reach

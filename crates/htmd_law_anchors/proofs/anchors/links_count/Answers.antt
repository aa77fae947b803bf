use Rattle.htmd_law_anchors.proofs.LinkMain.{links_count}
use Rattle.htmd_law_anchors.proofs.anchors.links_count.Goals as goal

pub returns : goal.returns
returns c = links_count

use Rattle.htmd_law_anchors.proofs.Main.{links_lead_there}
use Rattle.htmd_law_anchors.proofs.anchors.links_lead_there.Goals as goal

pub returns : goal.returns
returns c = links_lead_there

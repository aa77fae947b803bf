use Rattle.htmd_law_anchors.proofs.Main.{none_stand}
use Rattle.htmd_law_anchors.proofs.anchors.none_stand.Goals as goal

pub returns : goal.returns
returns c = none_stand

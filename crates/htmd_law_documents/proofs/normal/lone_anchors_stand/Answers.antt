use Rattle.htmd_law_documents.proofs.NormalMain.{lone_anchors_stand}
use Rattle.htmd_law_documents.proofs.normal.lone_anchors_stand.Goals as goal

pub returns : goal.returns
returns c = lone_anchors_stand

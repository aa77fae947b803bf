use Rattle.htmd_law_anchors.proofs.LinkedLemmas.{linked_targets}
use Rattle.htmd_law_anchors.proofs.anchors.linked_targets.Goals as goal

pub returns : goal.returns
returns c = linked_targets

use Rattle.htmd_law_anchors.proofs.ValueLemmas.{each_value}
use Rattle.htmd_law_anchors.proofs.anchors.each_value.Goals as goal

pub returns : goal.returns
returns c = each_value

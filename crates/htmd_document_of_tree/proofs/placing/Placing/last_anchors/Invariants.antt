use Rattle.std.proofs.Common.{◌≡◌, ◌++◌, map, length}
use Rattle.htmd_shown.specs.SimpleTrees as simple
use Rattle.htmd_shown.specs.SimpleViews.{simple_of}
use Rattle.htmd_document_of_tree.specs.Anchors.{values_of}
use Rattle.htmd_document_of_tree.specs.TargetViews.{target_of}
use Rattle.htmd_document_of_tree.proofs.placing.Placing.last_anchors.Given as goal

abbrev pub invariant-loop-target : goal.invariant-loop-target
invariant-loop-target l = record {
  root : l.self.root ≡ l.initial.self.root;
  anchors : map simple_of l.anchors.items ++ map simple.anchor (values_of (map target_of l.self.targets.items))
      ≡ map simple.anchor (values_of (map target_of l.initial.self.targets.items));
}

abbrev pub decreases-loop-target : goal.decreases-loop-target
decreases-loop-target l = length l.self.targets.items

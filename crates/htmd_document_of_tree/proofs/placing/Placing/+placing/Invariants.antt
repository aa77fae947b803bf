use Rattle.std.proofs.Common.{◌≡◌, ◌++◌, map, take, drop}
use Rattle.htmd_shown.specs.SimpleViews.{simple_of}
use Rattle.htmd_document_of_tree.specs.Anchors as spec
use Rattle.htmd_document_of_tree.specs.TargetViews.{placing_of}
use Rattle.htmd_document_of_tree.proofs.WalksLemmas.{gone, walk}
use Rattle.htmd_document_of_tree.proofs.placing.Placing.+placing.Given as goal

abbrev pub invariant-among-loop-tree : goal.invariant-among-loop-tree
invariant-among-loop-tree l = record {
  unvisited : goal.unvisited-among-loop-tree l;
  root : l.self.root ≡ l.initial.self.root;
  placing : gone spec.placing_after (placing_of l.self) (drop l.tree-index (map simple_of l.initial.trees))
      ≡ gone spec.placing_after (placing_of l.initial.self) (map simple_of l.initial.trees);
  trees : take l.tree-index (map simple_of l.trees)
      ++ walk spec.placed spec.placing_after (placing_of l.self) (drop l.tree-index (map simple_of l.initial.trees))
      ≡ walk spec.placed spec.placing_after (placing_of l.initial.self) (map simple_of l.initial.trees);
}

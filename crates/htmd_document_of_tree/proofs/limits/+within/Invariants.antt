use Rattle.std.proofs.Common.{◌≡◌, ◌++◌, map, take, drop}
use Rattle.htmd_shown.specs.SimpleViews.{simple_of}
use Rattle.htmd_document_of_tree.specs.Limits as spec
use Rattle.htmd_document_of_tree.proofs.WalksLemmas.{gone, walk}
use Rattle.htmd_document_of_tree.proofs.limits.+within.Given as goal

abbrev pub invariant-keep_within-loop-tree : goal.invariant-keep_within-loop-tree
invariant-keep_within-loop-tree l = record {
  unvisited : goal.unvisited-keep_within-loop-tree l;
  left : gone spec.left_after l.left (drop l.tree-index (map simple_of l.initial.trees))
      ≡ gone spec.left_after l.initial.left (map simple_of l.initial.trees);
  trees : take l.tree-index (map simple_of l.trees)
      ++ walk spec.within spec.left_after l.left (drop l.tree-index (map simple_of l.initial.trees))
      ≡ walk spec.within spec.left_after l.initial.left (map simple_of l.initial.trees);
}

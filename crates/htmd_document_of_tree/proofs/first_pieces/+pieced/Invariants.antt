use Rattle.std.proofs.Common.{◌≡◌, ◌++◌, map, take, drop}
use Rattle.htmd_shown.specs.SimpleViews.{simple_of}
use Rattle.htmd_document_of_tree.proofs.FirstPiecesLemmas.{pieced_one, same}
use Rattle.htmd_document_of_tree.proofs.WalksLemmas.{walk}
use Rattle.htmd_document_of_tree.proofs.first_pieces.+pieced.Given as goal

abbrev pub invariant-piece-loop-tree : goal.invariant-piece-loop-tree
invariant-piece-loop-tree l = record {
  unvisited : goal.unvisited-piece-loop-tree l;
  trees : take l.tree-index (map simple_of l.trees)
      ++ walk pieced_one same 0 (drop l.tree-index (map simple_of l.initial.trees))
      ≡ walk pieced_one same 0 (map simple_of l.initial.trees);
}

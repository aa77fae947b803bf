use Rattle.std.proofs.Common.{◌≡◌, ◌++◌, map, take, drop}
use Rattle.htmd_shown.specs.SimpleViews.{simple_of}
use Rattle.htmd_shown.specs.Pieces.{pieces_after}
use Rattle.htmd_document_of_tree.specs.FirstPieces as spec
use Rattle.htmd_document_of_tree.specs.PieceViews.{pieces_of}
use Rattle.htmd_document_of_tree.proofs.WalksLemmas.{gone, walk}
use Rattle.htmd_document_of_tree.proofs.first_pieces.+cut.Given as goal

abbrev pub invariant-cut-loop-tree : goal.invariant-cut-loop-tree
invariant-cut-loop-tree l = record {
  unvisited : goal.unvisited-cut-loop-tree l;
  pieces : gone pieces_after (pieces_of l.pieces) (drop l.tree-index (map simple_of l.initial.trees))
      ≡ gone pieces_after (pieces_of l.initial.pieces) (map simple_of l.initial.trees);
  trees : take l.tree-index (map simple_of l.trees)
      ++ walk spec.cut pieces_after (pieces_of l.pieces) (drop l.tree-index (map simple_of l.initial.trees))
      ≡ walk spec.cut pieces_after (pieces_of l.initial.pieces) (map simple_of l.initial.trees);
}

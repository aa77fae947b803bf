use Rattle.std.proofs.Common.{◌≡◌}
use Rattle.htmd_document_of_tree.proofs.LeadingsLemmas.{leaf-from}
use Rattle.htmd_document_of_tree.proofs.leadings.+leaves.Given as goal

abbrev pub invariant-have_leaf-loop-tree : goal.invariant-have_leaf-loop-tree
invariant-have_leaf-loop-tree l =
    leaf-from l.is_rich l.to_part l.layout l.trees l.tree-index ≡ leaf-from l.is_rich l.to_part l.layout l.trees 0

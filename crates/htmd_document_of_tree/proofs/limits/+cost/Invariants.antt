use Rattle.std.proofs.Common.{map, take}
use Rattle.htmd_shown.specs.SimpleViews.{simple_of}
use Rattle.htmd_document_of_tree.specs.Limits as spec
use Rattle.htmd_document_of_tree.specs.WrittenViews.{Covers}
use Rattle.htmd_document_of_tree.proofs.WalksLemmas.{gone}
use Rattle.htmd_document_of_tree.proofs.limits.+cost.Given as goal

abbrev pub invariant-most_cost-loop-tree : goal.invariant-most_cost-loop-tree
invariant-most_cost-loop-tree l =
    Covers l.initial.count l.count (λ left. gone spec.left_after left (take l.tree-index (map simple_of l.trees)))

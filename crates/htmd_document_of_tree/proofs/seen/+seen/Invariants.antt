use Rattle.std.proofs.Common.{◌≡◌, map, drop}
use Rattle.htmd_shown.specs.SimpleViews.{simple_of}
use Rattle.htmd_document_of_tree.proofs.SeenLemmas.{after_seen}
use Rattle.htmd_document_of_tree.proofs.WalksLemmas.{gone}
use Rattle.htmd_document_of_tree.proofs.seen.+seen.Given as goal

abbrev pub invariant-all_seen-loop-tree : goal.invariant-all_seen-loop-tree
invariant-all_seen-loop-tree l =
    gone after_seen l.seen (drop l.tree-index (map simple_of l.trees))
    ≡ gone after_seen l.initial.seen (map simple_of l.trees)

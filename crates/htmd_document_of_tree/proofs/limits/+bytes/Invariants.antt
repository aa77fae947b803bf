use Rattle.std.proofs.Common.{◌≤◌, map, drop}
use Rattle.htmd_shown.specs.SimpleViews.{simple_of}
use Rattle.htmd_document_of_tree.proofs.TextBytesLemmas.{added}
use Rattle.htmd_document_of_tree.proofs.WalksLemmas.{gone}
use Rattle.htmd_document_of_tree.proofs.limits.+bytes.Given as goal

abbrev pub invariant-text_bytes-loop-tree : goal.invariant-text_bytes-loop-tree
invariant-text_bytes-loop-tree l =
    gone added l.count (drop l.tree-index (map simple_of l.trees)) ≤ gone added l.initial.count
    (map simple_of l.trees)

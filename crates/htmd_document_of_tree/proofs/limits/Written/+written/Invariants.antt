use Rattle.std.proofs.Common.{map, take}
use Rattle.htmd_shown.specs.SimpleViews.{simple_of}
use Rattle.htmd_document_of_tree.specs.Limits as spec
use Rattle.htmd_document_of_tree.specs.WrittenViews.{Counts}
use Rattle.htmd_document_of_tree.proofs.WalksLemmas.{gone}
use Rattle.htmd_document_of_tree.proofs.limits.Written.+written.Given as goal

abbrev pub invariant-note_all-loop-tree : goal.invariant-note_all-loop-tree
invariant-note_all-loop-tree l = (w : spec.Written) → Counts l.initial.self w
    → Counts l.self (gone spec.written w (take l.tree-index (map simple_of l.trees)))

use Rattle.std.proofs.Common.{◌≡◌, map, drop}
use Rattle.htmd_document_of_tree.specs.TargetViews.{stays, target_of}
use Rattle.htmd_document_of_tree.proofs.TargetsLemmas.{turning}
use Rattle.htmd_document_of_tree.proofs.WalksLemmas.{gone}
use Rattle.htmd_document_of_tree.proofs.targets.keep.Given as goal

abbrev pub invariant-loop-is_first : goal.invariant-loop-is_first
invariant-loop-is_first l =
    gone (turning (stays l.leadings)) (map target_of l.targets.items) (drop l.is_first-index l.firsts)
    ≡ gone (turning (stays l.leadings)) (map target_of l.initial.targets.items) l.firsts

use Rattle.std.proofs.Common.{◌≡◌, ◌++◌, map, drop}
use Rattle.htmd_shown.specs.SimpleViews.{simple_of}
use Rattle.htmd_document_of_tree.specs.TargetViews.{counts_of, targets_in}
use Rattle.htmd_document_of_tree.proofs.SeenLemmas.{after_seen}
use Rattle.htmd_document_of_tree.proofs.TargetsLemmas.{targets-from}
use Rattle.htmd_document_of_tree.proofs.WalksLemmas.{gone}
use Rattle.htmd_document_of_tree.proofs.targets.Targets.+targets.Given as goal

abbrev pub invariant-among-loop-tree : goal.invariant-among-loop-tree
invariant-among-loop-tree l = record {
  seen : gone after_seen l.seen (drop l.tree-index (map simple_of l.trees))
      ≡ gone after_seen l.initial.seen (map simple_of l.trees);
  leadings : l.self.leadings ≡ l.initial.self.leadings;
  found : targets_in l.self
      ++ targets-from (counts_of l.initial.self.leadings) l.whole l.seen l.trees l.tree-index
      ≡ targets_in l.initial.self
      ++ targets-from (counts_of l.initial.self.leadings) l.whole l.initial.seen l.trees 0;
}

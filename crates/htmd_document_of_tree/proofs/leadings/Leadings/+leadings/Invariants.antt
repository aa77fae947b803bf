use Rattle.std.proofs.Common.{◌≡◌, ℕ, List, map, drop}
use Rattle.htmd_shown.specs.SimpleViews.{simple_of}
use Rattle.htmd_document_of_tree.specs.LeadingViews as views
use Rattle.htmd_document_of_tree.proofs.LeadingsLemmas.{leadings-from}
use Rattle.htmd_document_of_tree.proofs.SeenLemmas.{after_seen}
use Rattle.htmd_document_of_tree.proofs.WalksLemmas.{gone}
use Rattle.htmd_document_of_tree.proofs.leadings.Leadings.+leadings.Given as goal

abbrev pub invariant-among-loop-tree : goal.invariant-among-loop-tree
invariant-among-loop-tree l = record {
  seen : gone after_seen l.seen (drop l.tree-index (map simple_of l.trees))
      ≡ gone after_seen l.around.seen (map simple_of l.trees);
  spans : (s : List ℕ) → views.merged (views.span_to l.self s) s
      (leadings-from (record l.around { seen = l.seen }) l.layout l.trees l.tree-index)
      ≡ views.merged (views.span_to l.initial.self s) s (leadings-from l.around l.layout l.trees 0);
}

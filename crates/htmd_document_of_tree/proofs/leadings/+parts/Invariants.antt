use Rattle.std.proofs.Common.{◌≡◌}
use Rattle.htmd_document_of_tree.proofs.LeadingsLemmas.{part-from}
use Rattle.htmd_document_of_tree.proofs.leadings.+parts.Given as goal

abbrev pub invariant-lead_to_part-loop-tree : goal.invariant-lead_to_part-loop-tree
invariant-lead_to_part-loop-tree l = part-from l.trees l.tree-index ≡ part-from l.trees 0

use Rattle.std.proofs.Common.{◌+◌, ◌<◌, ◌≤◌, length, sym, ap, ◌∙◌}
use Rattle.std.proofs.Common.{◌||◌}
use Rattle.htmd_document_of_tree.proofs.LeadingsLemmas.{part-from, part-drop, part-end}
use Rattle.htmd_document_of_tree.proofs.leadings.+parts.Goals as goal

pub lead_to_part-loop-tree-preserved : goal.lead_to_part-loop-tree-preserved
lead_to_part-loop-tree-preserved t c =
    let h : c.loop-tree.tree-index < length c.args.trees.now = c.loop-tree-test.true in
    let rest = part-from c.args.trees.now (c.loop-tree.tree-index + 1) in
    sym (ap (λ b. b || rest) (sym c.leads_to_part_in.ensures ∙ c.if-leads_to_part_in.false))
    ∙ (sym (part-drop c.args.trees.now c.loop-tree.tree-index c.tree-item.result h c.tree-item.is)
    ∙ c.loop-tree.invariant)

pub lead_to_part-returns-then-leads_to_part_in : goal.lead_to_part-returns-then-leads_to_part_in
lead_to_part-returns-then-leads_to_part_in t c =
    let h : c.loop-tree.tree-index < length c.args.trees.now = c.loop-tree-test.true in
    let rest = part-from c.args.trees.now (c.loop-tree.tree-index + 1) in
    sym (ap (λ b. b || rest) (sym c.leads_to_part_in.ensures ∙ c.if-leads_to_part_in.true))
    ∙ (sym (part-drop c.args.trees.now c.loop-tree.tree-index c.tree-item.result h c.tree-item.is)
    ∙ c.loop-tree.invariant)

pub lead_to_part-returns : goal.lead_to_part-returns
lead_to_part-returns t c =
    let h : length c.args.trees.now ≤ c.loop-tree.tree-index = c.loop-tree-test.false in
    sym (part-end c.args.trees.now c.loop-tree.tree-index h) ∙ c.loop-tree.invariant

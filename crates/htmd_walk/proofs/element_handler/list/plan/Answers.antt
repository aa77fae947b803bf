use Rattle.std.proofs.Common.{sym, ◌∙◌, subst, All}
use Rattle.htmd_nodes.specs.Items.{IsBelow}
use Rattle.htmd_walk.proofs.ChildListsLemmas.{children_proper}
use Rattle.htmd_walk.proofs.element_handler.list.plan.Goals as goal

pub returns-clause-proper : goal.returns-clause-proper
returns-clause-proper c =
    let items = c.args.element.now.tree.now in
    let node = c.args.element.now.node in
    subst (All (λ d. ∥ IsBelow items node d ∥₁)) (sym (c.in_ok-nodes.ensures.items ∙ c.children.ensures.value))
    (children_proper items node)

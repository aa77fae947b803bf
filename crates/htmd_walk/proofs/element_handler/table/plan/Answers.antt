use Rattle.std.proofs.Common.{sym, ap, ◌∙◌, subst, All}
use Rattle.htmd_nodes.specs.Items.{IsBelow}
use Rattle.htmd_walk.specs.TableLayouts.{Layout, nodes_of}
use Rattle.htmd_walk.specs.TableViews.{parts_view}
use Rattle.htmd_walk.proofs.TableNodesLemmas.{layout-proper}
use Rattle.htmd_walk.proofs.element_handler.table.plan.Goals as goal

pub returns-clause-proper : goal.returns-clause-proper
returns-clause-proper c =
    let items = c.args.element.now.tree.now in
    let node = c.args.element.now.node in
    subst (All (λ d. ∥ IsBelow items node d ∥₁)) (sym (c.in_ok-nodes_of.ensures
    ∙ ap (λ ps. nodes_of (parts_view ps)) c.deref.ensures.value
    ∙ ap (λ (l : Layout). nodes_of l.parts) c.in_ok-layout.ensures)) (layout-proper items node)

-- The children come before what came.
use Rattle.std.proofs.Common.{◌≡◌, ◌∙◌, List, ap, refl}
use Rattle.std.specs.Prelude.{reverse}
use Rattle.htmd_html5_state.specs.Nodes.{children_at}
use Rattle.htmd_html5_state.specs.Views.{nodes_of}
use Rattle.htmd_html5_state.specs.declared.document.Node.{Node}
use Rattle.htmd_html5.specs.LayoutViews.{layout_of}
use Rattle.htmd_html5.proofs.LayoutLemmas.{children-pushed, all_may_hold-pushed}
use Rattle.htmd_html5.proofs.layout.Layout.push_children.Goals as goal

pub returns-clause-value : goal.returns-clause-value
returns-clause-value c =
    let l = layout_of c.args.self.now in
    let children : c.children_of-children.result.now ≡ children_at l.nodes c.args.node =
    c.children_of-children.ensures
    ∙ ap (λ (ns : List Node). children_at (nodes_of ns) c.args.node) c.as_slice.ensures.value
    in
    children-pushed c.push_all.result l c.args.self.now.coming.items c.push_all.new.coming.items
    c.children_of-children.result.now c.args.node c.args.under refl children c.push_all.ensures

pub returns-clause-holds : goal.returns-clause-holds
returns-clause-holds c =
    all_may_hold-pushed c.push_all.result c.args.self.now.tree c.args.self.now.coming.items c.push_all.new.coming.items
    (reverse c.children_of-children.result.now) c.args.under c.requires.may_hold c.requires.holds c.push_all.ensures

use Rattle.std.proofs.Common.{◌∙◌, ◌<◌, All, length, sym, ap, subst}
use Rattle.htmd_nodes.specs.Items.{children_of}
use Rattle.htmd_shown.specs.SightViews.{nodes_of, sight_with}
use Rattle.htmd_shown.proofs.PageLemmas.{children_within}
use Rattle.htmd_shown.proofs.WalkLemmas.{page_shown}
use Rattle.htmd_shown.proofs.sight.shown.Goals as goal

pub among-requires : goal.among-requires
among-requires c =
    let items = c.args.tree.now in
    subst (λ ns. All (λ node. node < length items) ns)
    (sym (c.children.ensures.value ∙ ap (children_of items) c.root-root.ensures.value))
    (children_within items c.children.ensures.tree 0 c.children.ensures.tree.not_empty)

pub returns : goal.returns
returns c =
    let items = c.args.tree.now in
    page_shown (sight_with c.args.scripting c.args.skip.now c.args.is_rich) items c.children.ensures.tree
    c.children.result.now
    (nodes_of c.in_ok-content.content) c.root-root.result
    (c.children.ensures.value ∙ ap (children_of items) c.root-root.ensures.value) c.in_ok-content.ensures.value

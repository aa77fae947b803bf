use Rattle.std.proofs.Common.{sym, ap, ◌∙◌, arith, codes}
use Rattle.std.specs.Str.{bytes_eq}
use Rattle.htmd_nodes.specs.Views.{data_of}
use Rattle.htmd_walk.proofs.Nodes.{parent_pre-root, parent_pre-up, not_pre}
use Rattle.htmd_walk.proofs.node_util.is_parent_pre.Goals as goal

pub returns-in_default : goal.returns-in_default
returns-in_default c = sym (parent_pre-root c.args.tree.now c.in_default.ensures.tree c.args.node c.requires
    (sym c.in_default.ensures.value))

pub data-requires : goal.data-requires
data-requires c =
    let up = c.in-Some.ensures.tree.under c.args.node c.in-Some.parent c.requires (sym c.in-Some.ensures.value) in
    omega (arith, up.before)

pub returns-in-Element : goal.returns-in-Element
returns-in-Element c =
    c.eq.ensures ∙ ap (λ s. bytes_eq s (codes "pre")) c.as_str.ensures
    ∙ sym (parent_pre-up c.args.tree.now c.data.ensures.tree c.args.node c.in-Some.parent _ c.requires
    (sym c.in-Some.ensures.value) (sym c.data.ensures.value ∙ ap data_of c.in-Element.is))

pub returns-in_default-data : goal.returns-in_default-data
returns-in_default-data c =
    sym (parent_pre-up c.args.tree.now c.data.ensures.tree c.args.node c.in-Some.parent _ c.requires
    (sym c.in-Some.ensures.value) (sym c.data.ensures.value)
    ∙ not_pre c.data.result.now c.in_default-data.not-Element)

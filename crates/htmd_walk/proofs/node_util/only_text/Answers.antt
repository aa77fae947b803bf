use Rattle.std.proofs.Common.{sym, ◌∙◌, ap, arith, Some}
use Rattle.htmd_nodes.specs.Views.{data_of}
use Rattle.htmd_nodes.specs.NumberedTrees.{forest_of, tree_of}
use Rattle.htmd_nodes.proofs.ItemsLemmas.{child_read}
use Rattle.htmd_walk.specs.Groups.{only_text}
use Rattle.htmd_walk.specs.Rendering.{is_text}
use Rattle.htmd_walk.proofs.Nodes.{only_text-one, only_text-other, only_text-none, not_text}
use Rattle.htmd_walk.proofs.node_util.only_text.Goals as goal

pub returns-then-children-ne1-clause-value : goal.returns-then-children-ne1-clause-value
returns-then-children-ne1-clause-value c =
    sym (ap (λ x. only_text (forest_of (tree_of c.args.tree.now) x)) (sym c.children-children.ensures.value)
    ∙ only_text-none c.args.tree.now c.children-children.ensures.tree c.children-children.result.now
    c.if-children-ne1.true)

pub data-requires : goal.data-requires
data-requires c =
    let ids = c.children-children.result.now in
    let child = child_read c.args.tree.now c.args.node ids 0 c.index-children-0.result c.children-children.ensures.tree
    c.requires c.children-children.ensures.value (omega arith) c.index-children-0.is in
    child.1

pub returns-in-Text-clause-value : goal.returns-in-Text-clause-value
returns-in-Text-clause-value c =
    let ids = c.children-children.result.now in
    let child = child_read c.args.tree.now c.args.node ids 0 c.index-children-0.result c.children-children.ensures.tree
    c.requires c.children-children.ensures.value (omega arith) c.index-children-0.is in
    ap Some c.as_str.ensures.value
    ∙ sym (ap (λ x. only_text (forest_of (tree_of c.args.tree.now) x)) (sym c.children-children.ensures.value)
    ∙ only_text-one c.args.tree.now c.children-children.ensures.tree ids c.index-children-0.result _
    c.if-children-ne1.false c.index-children-0.is child.1 (sym c.data.ensures.value ∙ ap data_of c.in-Text.is))

pub returns-in_default-clause-value : goal.returns-in_default-clause-value
returns-in_default-clause-value c =
    let ids = c.children-children.result.now in
    let child = child_read c.args.tree.now c.args.node ids 0 c.index-children-0.result c.children-children.ensures.tree
    c.requires c.children-children.ensures.value (omega arith) c.index-children-0.is in
    sym (ap (λ x. only_text (forest_of (tree_of c.args.tree.now) x)) (sym c.children-children.ensures.value)
    ∙ only_text-other c.args.tree.now c.children-children.ensures.tree ids c.index-children-0.result
    c.if-children-ne1.false c.index-children-0.is child.1
    (ap is_text (sym c.data.ensures.value) ∙ not_text c.data.result.now c.in_default.not-Text))

-- What is left to prove of the functions of the cycle `body`.
use Rattle.std.proofs.Common.{rules, ◌<◌, length, sym, ap, ◌∙◌, arith}
use Rattle.htmd_nodes.specs.Items.{children_of}
use Rattle.htmd_nodes.specs.NumberedTrees.{tree_of, forest_of}
use Rattle.htmd_nodes.specs.Views.{data_of}
use Rattle.htmd_nodes.proofs.ItemsLemmas.{child_read}
use Rattle.htmd_nodes.proofs.SearchLemmas.{value-node}
use Rattle.htmd_article.specs.Parts.{body_in}
use Rattle.htmd_article.proofs.KnownLemmas.{body-other, body_here, body_nowhere, body_below}
use Rattle.htmd_article.proofs.parts.+body.Goals as goal

pub first_body-body_in-body-requires : goal.first_body-body_in-body-requires
first_body-body_in-body-requires t c =
    let below = child_read c.args.tree.now c.args.id c.children-child-items.result.now c.loop-child.child-index
    c.child-item.result c.children-child-items.ensures.tree c.requires c.children-child-items.ensures.value
    (omega arith) c.child-item.is in
    let after : c.args.id < c.child-item.result = below.0 in
    let within : c.child-item.result < length c.args.tree.now = below.1 in
    (search rules, within)

pub body_in-returns-in_default-clause-value : goal.body_in-returns-in_default-clause-value
body_in-returns-in_default-clause-value t c =
    let w =
    ap body_in (value-node c.args.tree.now c.args.id (data_of c.data.result.now) c.data.ensures.tree
    c.requires c.data.ensures.value) in
    sym (w ∙ body-other c.args.id c.data.result.now
    (forest_of (tree_of c.args.tree.now) (children_of c.args.tree.now c.args.id))
    c.in_default.not-Element)

pub body_in-returns-then-is_body-clause-value : goal.body_in-returns-then-is_body-clause-value
body_in-returns-then-is_body-clause-value t c =
    body_here c.args.tree.now c.args.id c.data.result.now c.in-Element.name c.in-Element.attrs c.data.ensures.tree
    c.requires c.data.ensures.value c.in-Element.is (sym c.is_body.ensures ∙ c.if-is_body.true)

pub body_in-returns-then-is_unseen-clause-value : goal.body_in-returns-then-is_unseen-clause-value
body_in-returns-then-is_unseen-clause-value t c =
    body_nowhere c.args.tree.now c.args.id c.data.result.now c.in-Element.name c.in-Element.attrs c.data.ensures.tree
    c.requires c.data.ensures.value c.in-Element.is (sym c.is_body.ensures ∙ c.if-is_body.false)
    (sym c.is_unseen.ensures ∙ c.if-is_unseen.true)

pub body_in-returns-clause-value : goal.body_in-returns-clause-value
body_in-returns-clause-value t c =
    c.first_body.ensures.value
    ∙ body_below c.args.tree.now c.args.id c.data.result.now c.in-Element.name c.in-Element.attrs c.data.ensures.tree
    c.requires c.data.ensures.value c.in-Element.is
    (sym c.is_body.ensures ∙ c.if-is_body.false) (sym c.is_unseen.ensures ∙ c.if-is_unseen.false)

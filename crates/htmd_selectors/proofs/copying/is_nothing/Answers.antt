use Rattle.std.proofs.Common.{rules, ap, sym, ◌∙◌, string_bytes}
use Rattle.htmd_lexical.specs.Attributes.{pairs_of}
use Rattle.htmd_nodes.specs.Items.{text_node, element_node, children_of}
use Rattle.htmd_nodes.specs.NumberedTrees.{tree_of, forest_of}
use Rattle.htmd_nodes.specs.Views.{data_of}
use Rattle.htmd_selectors.specs.SelectedParts.{is_nothing}
use Rattle.htmd_selectors.proofs.SelectedPartsLemmas.{is_nothing-other, part-node}
use Rattle.htmd_selectors.proofs.copying.is_nothing.Goals as goal

pub returns-in-Element : goal.returns-in-Element
returns-in-Element c =
    sym (part-node is_nothing c.args.tree.now c.args.node
    (element_node c.in-Element.name (pairs_of c.in-Element.attrs.items)) c.data.ensures.tree c.requires
    (sym (ap data_of c.in-Element.is) ∙ c.data.ensures.value))

pub returns-in-Text : goal.returns-in-Text
returns-in-Text c =
    let w = part-node is_nothing c.args.tree.now c.args.node (text_node (string_bytes c.in-Text.text))
    c.data.ensures.tree c.requires (sym (ap data_of c.in-Text.is) ∙ c.data.ensures.value) in
    rw w (search rules)

pub returns-in_default : goal.returns-in_default
returns-in_default c =
    let tree = c.args.tree.now in
    sym (part-node is_nothing tree c.args.node (data_of c.data.result.now) c.data.ensures.tree c.requires
    c.data.ensures.value
    ∙ is_nothing-other c.args.node c.data.result.now (forest_of (tree_of tree) (children_of tree c.args.node))
    c.in_default.not-Element c.in_default.not-Text)

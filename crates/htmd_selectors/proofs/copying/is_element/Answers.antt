use Rattle.std.proofs.Common.{ap, sym, ◌∙◌}
use Rattle.htmd_lexical.specs.Attributes.{pairs_of}
use Rattle.htmd_nodes.specs.Items.{element_node, children_of}
use Rattle.htmd_nodes.specs.NumberedTrees.{tree_of, forest_of}
use Rattle.htmd_nodes.specs.Views.{data_of}
use Rattle.htmd_selectors.specs.SelectedParts.{count}
use Rattle.htmd_selectors.proofs.SelectedPartsLemmas.{count-other, part-node}
use Rattle.htmd_selectors.proofs.copying.is_element.Goals as goal

pub returns-in-Element : goal.returns-in-Element
returns-in-Element c =
    sym (part-node count c.args.tree.now c.args.node
    (element_node c.in-Element.name (pairs_of c.in-Element.attrs.items)) c.data.ensures.tree c.requires
    (sym (ap data_of c.in-Element.is) ∙ c.data.ensures.value))

pub returns-in_default : goal.returns-in_default
returns-in_default c =
    let tree = c.args.tree.now in
    sym (part-node count tree c.args.node (data_of c.data.result.now) c.data.ensures.tree c.requires
    c.data.ensures.value
    ∙ count-other c.args.node c.data.result.now (forest_of (tree_of tree) (children_of tree c.args.node))
    c.in_default.not-Element)

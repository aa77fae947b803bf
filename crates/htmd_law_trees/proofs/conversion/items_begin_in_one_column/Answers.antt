use Rattle.std.proofs.Common.{◌∙◌, arith, ap, length, List}
use Rattle.htmd_nodes.specs.Items.{Item, children_of}
use Rattle.htmd_walk.specs.Views.{element_view}
use Rattle.htmd_law_trees.proofs.ListLawsLemmas.{items_begin}
use Rattle.htmd_law_trees.proofs.conversion.items_begin_in_one_column.Goals as goal

pub returns : goal.returns
returns c =
    let node = c.args.element.now.node in
    items_begin (element_view c.args.element.now)
    (omega (
      arith,
      c.children-children.type_inv.1,
      ap length (c.children-children.ensures.value
          ∙ ap (λ (items : List Item). children_of items node) c.tree-tree.ensures),
    ))

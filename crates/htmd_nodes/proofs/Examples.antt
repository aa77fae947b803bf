-- A small document, `<p>Hi</p><br>`, whose text was added last.
use Rattle.std.proofs.Common.{◌≡◌, List, [], ◌∷◌, Some, None, refl}
use Rattle.std.specs.Prelude.{codes}
use Rattle.htmd_nodes.specs.Items.{Item, document_item, text_node, element_node, children_of}
use Rattle.htmd_nodes.specs.NumberedTrees.{document, text, element, none, more, forest_from, tree_of, height}
use Rattle.htmd_values.specs.ValueTrees as values
use Rattle.htmd_nodes.specs.Layout.{document_items}
use Rattle.htmd_nodes.specs.Ancestors.{ancestors_up, ancestors_of}
use Rattle.htmd_nodes.specs.AttributeValues.{value_of}
use Rattle.htmd_lexical.specs.AttributePairs.{AttributePair}

abbrev items : List Item
items =
    document_item
    ∷ record { parent = Some 0; depth = 1; node_data = element_node (codes "p") [] }
    ∷ record { parent = Some 0; depth = 1; node_data = element_node (codes "br") [] }
    ∷ record { parent = Some 1; depth = 2; node_data = text_node (codes "Hi") }
    ∷ []

children_of-document : children_of items 0 ≡ 1 ∷ 2 ∷ []
children_of-document = refl

children_of-paragraph : children_of items 1 ≡ 3 ∷ []
children_of-paragraph = refl

tree_of-document : tree_of items 0 ≡ document 0 (more (element 1 (codes "p") [] (more (text 3 (codes "Hi")) none))
    (more (element 2 (codes "br") [] none) none))
unfolding tree_of forest_from
tree_of-document = refl

height-document : height (tree_of items 0) ≡ 3
unfolding tree_of forest_from
height-document = refl

ancestors_of-text : ancestors_of items 3 ≡ record { tag = codes "p"; attributes = [] }
    ∷ record { tag = codes "html"; attributes = [] } ∷ []
unfolding ancestors_of ancestors_up
ancestors_of-text = refl

-- laid out in document order, the text stands before the `br`
document_items-children : document_items
    (values.more (values.element (codes "p") [] (values.more (values.text (codes "Hi")) values.none))
    (values.more (values.element (codes "br") [] values.none) values.none)) ≡ (document_item
    ∷ record { parent = Some 0; depth = 1; node_data = element_node (codes "p") [] }
    ∷ record { parent = Some 1; depth = 2; node_data = text_node (codes "Hi") }
    ∷ record { parent = Some 0; depth = 1; node_data = element_node (codes "br") [] }
    ∷ [])
document_items-children = refl

-- attributes: two with one name, of which the first counts
abbrev attributes : List AttributePair
attributes =
    record { name = codes "id"; value = codes "a" }
    ∷ record { name = codes "title"; value = codes "b" }
    ∷ record { name = codes "title"; value = codes "c" }
    ∷ []

value_of-title : value_of (codes "title") attributes ≡ Some (codes "b")
value_of-title = refl

value_of-href : value_of (codes "href") attributes ≡ None
value_of-href = refl

-- A document laid out as a tree's items in document order: a node, and then what its children are laid out as, from
-- left to right.
use Rattle.std.specs.Prelude.{◌≡◌, ℕ, suc, ◌+◌, List, [], ◌∷◌, ◌++◌, Some}
use Rattle.htmd_nodes.specs.Items.{Data, document_node, doctype_node, text_node, comment_node, element_node, Item}
use Rattle.htmd_nodes.specs.Items.{document_item}
use Rattle.htmd_nodes.specs.NumberedTrees.{tree_of, value_tree}
use Rattle.htmd_values.specs.ValueTrees.{ValueTree, document, doctype, text, comment, element, ValueForest, none, more}

abbrev mutual
  -- how many nodes a tree has
  pub size : ValueTree → ℕ
  size (document children) = suc (sizes children)
  size doctype = 1
  size (text s) = 1
  size (comment s) = 1
  size (element name attributes children) = suc (sizes children)

  pub sizes : ValueForest → ℕ
  sizes none = 0
  sizes (more tree trees) = size tree + sizes trees

-- a node under p, at depth d
abbrev pub item_under : ℕ → ℕ → Data → Item
item_under d p node_data = record { parent = Some p; depth = d; node_data = node_data }

abbrev mutual
  -- the items of a tree at depth d under p, numbered from b on
  pub tree_items : ℕ → ℕ → ℕ → ValueTree → List Item
  tree_items d p b (document children) = item_under d p document_node ∷ forest_items (suc d) b (suc b) children
  tree_items d p b doctype = item_under d p doctype_node ∷ []
  tree_items d p b (text s) = item_under d p (text_node s) ∷ []
  tree_items d p b (comment s) = item_under d p (comment_node s) ∷ []
  tree_items d p b (element name attributes children) = item_under d p (element_node name attributes)
      ∷ forest_items (suc d) b (suc b) children

  pub forest_items : ℕ → ℕ → ℕ → ValueForest → List Item
  forest_items d p b none = []
  forest_items d p b (more tree trees) = tree_items d p b tree ++ forest_items d p (b + size tree) trees

-- the items of a document with these children
abbrev pub document_items : ValueForest → List Item
document_items children = document_item ∷ forest_items 1 0 1 children

-- a document that is laid out denotes itself
abbrev pub LayoutDenotes : Type 0
LayoutDenotes = (children : ValueForest) → value_tree (tree_of (document_items children) 0) ≡ document children

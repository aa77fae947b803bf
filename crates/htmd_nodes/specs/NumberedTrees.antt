-- The value tree of a node, each part of which keeps the number of its node.
use Rattle.std.specs.Prelude.{ℕ, suc, max, if◌then◌else◌, List, [], ◌∷◌}
use Rattle.htmd_lexical.specs.AttributePairs.{AttributePair}
use Rattle.htmd_values.specs.ValueTrees.{ValueTree, ValueForest}
use Rattle.htmd_values.specs.ValueTrees as value
use Rattle.htmd_nodes.specs.Items.{Data, document_node, doctype_node, text_node, comment_node, element_node, Item}
use Rattle.htmd_nodes.specs.Items.{is_child, data_at}

mutual
  pub data NumberedTree : Type 0 where
    document : (id : ℕ) (children : NumberedForest) → NumberedTree
    doctype : (id : ℕ) → NumberedTree
    text : (id : ℕ) (s : List ℕ) → NumberedTree
    comment : (id : ℕ) (s : List ℕ) → NumberedTree
    element : (id : ℕ) (name : List ℕ) (attributes : List AttributePair) (children : NumberedForest)
        → NumberedTree

  pub data NumberedForest : Type 0 where
    none : NumberedForest
    more : (tree : NumberedTree) (trees : NumberedForest) → NumberedForest

-- what a node is, with the trees of its children
abbrev pub with_children : ℕ → Data → NumberedForest → NumberedTree
with_children id document_node children = document id children
with_children id doctype_node children = doctype id
with_children id (text_node s) children = text id s
with_children id (comment_node s) children = comment id s
with_children id (element_node name attributes) children = element id name attributes children

-- the trees of the children of p among items that are numbered from b on; the children of each come after it
unfoldable pub forest_from : ℕ → List Item → ℕ → NumberedForest
forest_from b [] p = none
forest_from b (item ∷ items) p =
    if is_child p item.parent
    then more (with_children b item.node_data (forest_from (suc b) items b)) (forest_from (suc b) items p)
    else forest_from (suc b) items p

-- the value tree of a node
unfoldable pub tree_of : List Item → ℕ → NumberedTree
tree_of items id = with_children id (data_at items id) (forest_from 0 items id)

abbrev pub forest_of : (ℕ → NumberedTree) → List ℕ → NumberedForest
forest_of tree [] = none
forest_of tree (id ∷ ids) = more (tree id) (forest_of tree ids)

abbrev mutual
  -- how many levels a tree has
  pub height : NumberedTree → ℕ
  height (document id children) = suc (tallest children)
  height (doctype id) = 1
  height (text id s) = 1
  height (comment id s) = 1
  height (element id name attributes children) = suc (tallest children)

  pub tallest : NumberedForest → ℕ
  tallest none = 0
  tallest (more tree trees) = max (height tree) (tallest trees)

abbrev mutual
  -- a tree without its numbers
  pub value_tree : NumberedTree → ValueTree
  value_tree (document id children) = value.document (value_forest children)
  value_tree (doctype id) = value.doctype
  value_tree (text id s) = value.text s
  value_tree (comment id s) = value.comment s
  value_tree (element id name attributes children) = value.element name attributes (value_forest children)

  pub value_forest : NumberedForest → ValueForest
  value_forest none = value.none
  value_forest (more tree trees) = value.more (value_tree tree) (value_forest trees)

-- the value tree of a node
abbrev pub value_at : List Item → ℕ → ValueTree
value_at items id = value_tree (tree_of items id)

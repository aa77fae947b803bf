-- A tree as its callers see it: its nodes in the order in which they were added, numbered from 0.
use Rattle.std.specs.Prelude.{◌≡◌, ℕ, suc, ◌+◌, ◌<◌, ◌≤◌, Bool, true, false, ◌==◌, if◌then◌else◌, List, [], ◌∷◌, length}
use Rattle.std.specs.Prelude.{Option, Some, None, IsSome, slice_index_or, Contains, All, codes}
use Rattle.std.specs.Str.{IsUtf8}
use Rattle.htmd_lexical.specs.AttributePairs.{AttributePair}

-- what a node is, apart from its place
pub data Data : Type 0 where
  document_node : Data
  doctype_node : Data
  text_node : (text : List ℕ) → Data
  comment_node : (text : List ℕ) → Data
  element_node : (name : List ℕ) (attributes : List AttributePair) → Data

-- a node: the number of its parent, its depth, and what it is
pub record Item : Type 0 where
  pub parent : Option ℕ
  pub depth : ℕ
  pub node_data : Data

-- the Document, at depth 0 and without a parent
abbrev pub document_item : Item
document_item = record { parent = None; depth = 0; node_data = document_node }

abbrev pub item_at : List Item → ℕ → Item
item_at items id = slice_index_or items id document_item

abbrev pub parent_at : List Item → ℕ → Option ℕ
parent_at items id = (item_at items id).parent

abbrev pub depth_at : List Item → ℕ → ℕ
depth_at items id = (item_at items id).depth

abbrev pub data_at : List Item → ℕ → Data
data_at items id = (item_at items id).node_data

-- this parent is p
abbrev pub is_child : ℕ → Option ℕ → Bool
is_child p None = false
is_child p (Some q) = q == p

-- the numbers of the children of p among items that are numbered from b on
abbrev pub children_from : ℕ → List Item → ℕ → List ℕ
children_from b [] p = []
children_from b (item ∷ items) p = if is_child p item.parent then b ∷ children_from (suc b) items p
    else children_from (suc b) items p

-- a node's children: the items that name it as their parent, in order of addition
abbrev pub children_of : List Item → ℕ → List ℕ
children_of items p = children_from 0 items p

-- the Document and elements have children, and nothing else has
abbrev pub holds_children : Data → Bool
holds_children document_node = true
holds_children doctype_node = false
holds_children (text_node s) = false
holds_children (comment_node s) = false
holds_children (element_node name attributes) = true

-- the tag of an element is its name, and that of the Document is html
abbrev pub tag_of : Data → Option (List ℕ)
tag_of document_node = Some (codes "html")
tag_of doctype_node = None
tag_of (text_node s) = None
tag_of (comment_node s) = None
tag_of (element_node name attributes) = Some name

-- a new node under p
abbrev pub new_item : List Item → ℕ → Data → Item
new_item items p node_data = record { parent = Some p; depth = depth_at items p + 1; node_data = node_data }

-- the greatest depth of a node
abbrev pub greatest_depth : ℕ
greatest_depth = 1024

-- node k is right under node p, which was there before it
pub record IsUnder (items : List Item) (p k : ℕ) : Type 0 where
  pub before : p < k
  pub holds : holds_children (data_at items p) ≡ true
  pub deeper : depth_at items k ≡ depth_at items p + 1

-- what holds for every tree: the Document comes first, and every other node stands under one parent
pub record IsTree (items : List Item) : Type 0 where
  pub not_empty : 0 < length items
  pub first : item_at items 0 ≡ document_item
  pub has_parent : (k : ℕ) → 0 < k → k < length items → IsSome (parent_at items k)
  pub under : (k p : ℕ) → k < length items → parent_at items k ≡ Some p → IsUnder items p k
  pub within : (k : ℕ) → k < length items → depth_at items k ≤ greatest_depth

-- d is a child of the node, or a child's child, and so on
pub data IsBelow (items : List Item) (node : ℕ) : ℕ → Type 0 where
  child : {d : ℕ} → Contains (children_of items node) d → IsBelow items node d
  deeper : {p d : ℕ} → IsBelow items node p → Contains (children_of items p) d → IsBelow items node d

-- texts and the values of attributes are UTF-8, as all strings are
abbrev pub HoldsText : Data → Type 0
HoldsText document_node = Unit {0}
HoldsText doctype_node = Unit {0}
HoldsText (text_node s) = IsUtf8 s
HoldsText (comment_node s) = Unit {0}
HoldsText (element_node name attributes) = All (λ (a : AttributePair). IsUtf8 a.value) attributes

abbrev pub HoldTexts : List Item → Type 0
HoldTexts items = All (λ (item : Item). HoldsText item.node_data) items

-- The nodes of a document in document order, as a tree has them, to a depth. An element at that depth keeps no
-- children: they come right after it, in order, as its siblings, and texts that are siblings there are one.
use Rattle.std.specs.Prelude.{ℕ, Bool, ◌==◌, if◌then◌else◌, List, [], ◌∷◌, ◌++◌, length, Option, Some, None, suc}
use Rattle.std.specs.Prelude.{zero, ◌+◌, is_some, map}
use Rattle.htmd_html5_state.specs.Names.{text_of_element_name}
use Rattle.htmd_html5_state.specs.Nodes.{KindValue, NodeValue, kind_at, children_at, text_of, with_kind, document}
use Rattle.htmd_html5_state.specs.Nodes.{doctype, text, comment, element}
use Rattle.htmd_nodes.specs.Items.{Data, doctype_node, text_node, comment_node, element_node, Item, document_item}
use Rattle.htmd_nodes.specs.Items.{new_item, depth_at}

-- a node that is to come, and the number of its parent in the tree
pub record Coming : Type 0 where
  pub node : ℕ
  pub under : ℕ

abbrev pub coming : ℕ → ℕ → Coming
coming under node = record { node = node; under = under }

-- a child of this item is at the depth
abbrev pub is_deepest : ℕ → List Item → ℕ → Bool
is_deepest limit items under = depth_at items under + 1 == limit

-- ---- texts that are siblings

abbrev pub text_under : List NodeValue → ℕ → Coming → Option (List ℕ)
text_under nodes under c = if c.under == under then text_of (kind_at nodes c.node) else None

abbrev pub or_text : Option (List ℕ) → List ℕ → List ℕ
or_text None rest = []
or_text (Some s) rest = s ++ rest

-- the texts that come next under an item
abbrev pub next_texts : List NodeValue → ℕ → List Coming → List ℕ
next_texts nodes under [] = []
next_texts nodes under (c ∷ cs) = or_text (text_under nodes under c) (next_texts nodes under cs)

-- the text that comes next, if it is under the item
abbrev pub next_text : List NodeValue → ℕ → List Coming → Option (List ℕ)
next_text nodes under [] = None
next_text nodes under (c ∷ cs) = text_under nodes under c

abbrev pub after_next_texts : List NodeValue → ℕ → List Coming → List Coming
after_next_texts nodes under [] = []
after_next_texts nodes under (c ∷ cs) =
    if is_some (text_under nodes under c) then after_next_texts nodes under cs else c ∷ cs

-- ---- the items

-- the nodes that are left, the items so far, and what comes next
pub record Layout : Type 0 where
  pub nodes : List NodeValue
  pub items : List Item
  pub work : List Coming

abbrev pub with_item : Data → ℕ → Layout → Layout
with_item new under l = record l { items = l.items ++ new_item l.items under new ∷ [] }

-- with the texts that come next
abbrev pub joined : List ℕ → ℕ → Layout → List ℕ
joined s under l = s ++ next_texts l.nodes under l.work

abbrev pub after_joined : ℕ → Layout → Layout
after_joined under l = record l { work = after_next_texts l.nodes under l.work }

abbrev pub with_text : Bool → List ℕ → ℕ → Layout → Layout
with_text deepest s under l =
    if deepest then with_item (text_node (joined s under l)) under (after_joined under l)
    else with_item (text_node s) under l

-- the item under which the children of a new item come
abbrev pub parent_of_children : Bool → ℕ → Layout → ℕ
parent_of_children deepest under l = if deepest then under else length l.items

abbrev pub with_children_under : ℕ → ℕ → Layout → Layout
with_children_under under n l = record l { work = map (coming under) (children_at l.nodes n) ++ l.work }

abbrev pub with_element : Bool → Data → Coming → Layout → Layout
with_element deepest new c l =
    with_children_under (parent_of_children deepest c.under l) c.node (with_item new c.under l)

-- a Document in a document is nothing
abbrev pub with_kind_of : Bool → KindValue → Coming → Layout → Layout
with_kind_of deepest document c l = l
with_kind_of deepest doctype c l = with_item doctype_node c.under l
with_kind_of deepest (text s) c l = with_text deepest s c.under l
with_kind_of deepest (comment s) c l = with_item (comment_node s) c.under l
with_kind_of deepest (element name attributes) c l =
    with_element deepest (element_node (text_of_element_name name) attributes) c l

-- a node isn't laid out twice
abbrev pub without_node : ℕ → Layout → Layout
without_node n l = record l { nodes = with_kind n document l.nodes }

abbrev pub put_node : ℕ → Coming → Layout → Layout
put_node limit c l =
    with_kind_of (is_deepest limit l.items c.under) (kind_at l.nodes c.node) c (without_node c.node l)

abbrev pub put_next : ℕ → List Coming → Layout → Layout
put_next limit [] l = l
put_next limit (c ∷ work) l = put_node limit c (record l { work = work })

-- with this many more nodes at most
abbrev pub layout_within : ℕ → ℕ → Layout → Layout
layout_within limit zero l = l
layout_within limit (suc k) l = layout_within limit k (put_next limit l.work l)

abbrev pub first_layout : List NodeValue → Layout
first_layout nodes =
    with_children_under 0 0 (record { nodes = nodes; items = document_item ∷ []; work = [] })

abbrev pub document_of : ℕ → List NodeValue → List Item
document_of limit nodes = (layout_within limit (length nodes) (first_layout nodes)).items

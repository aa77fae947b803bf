-- Documents while they are made: nodes by number in order of making, each with its parent and its children. Node 0 is
-- the Document. A number that no node has is that of a node with nothing, which doesn't change.
use Rattle.std.specs.Prelude.{ℕ, zero, suc, Bool, false, not, ◌&&◌, ◌||◌, ◌==◌, if◌then◌else◌}
use Rattle.std.specs.Prelude.{List, [], ◌∷◌, ◌++◌, length, insert, remove, slice_get, slice_set, slice_index_or}
use Rattle.std.specs.Prelude.{Option, Some, None, find}
use Rattle.std.specs.List.{list_any, list_all}
use Rattle.std.specs.Str.{bytes_eq}
use Rattle.htmd_lexical.specs.AttributePairs.{AttributePair}
use Rattle.htmd_html5_state.specs.declared.document.Place.{Place}
use Rattle.htmd_html5_state.specs.Names.{ElementNameValue, same_element_name}

-- what a node is
pub data KindValue : Type 0 where
  document : KindValue
  doctype : KindValue
  text : List ℕ → KindValue
  comment : List ℕ → KindValue
  element : ElementNameValue → List AttributePair → KindValue

pub record NodeValue : Type 0 where
  pub kind : KindValue
  pub parent : Option ℕ
  pub children : List ℕ

-- ---- what a node has

abbrev pub new_node : KindValue → NodeValue
new_node kind = record { kind = kind; parent = None; children = [] }

abbrev pub node_at : List NodeValue → ℕ → NodeValue
node_at nodes n = slice_index_or nodes n (new_node document)

abbrev pub kind_at : List NodeValue → ℕ → KindValue
kind_at nodes n = (node_at nodes n).kind

abbrev pub parent_at : List NodeValue → ℕ → Option ℕ
parent_at nodes n = (node_at nodes n).parent

abbrev pub children_at : List NodeValue → ℕ → List ℕ
children_at nodes n = (node_at nodes n).children

abbrev pub attributes_of : KindValue → List AttributePair
attributes_of (element name attributes) = attributes
attributes_of _ = []

abbrev pub attributes_at : List NodeValue → ℕ → List AttributePair
attributes_at nodes n = attributes_of (kind_at nodes n)

abbrev pub text_of : KindValue → Option (List ℕ)
text_of (text s) = Some s
text_of _ = None

-- ---- one part of a node changed

abbrev pub with_kind : ℕ → KindValue → List NodeValue → List NodeValue
with_kind n kind nodes = slice_set nodes n (record (node_at nodes n) { kind = kind })

abbrev pub with_parent : ℕ → Option ℕ → List NodeValue → List NodeValue
with_parent n parent nodes = slice_set nodes n (record (node_at nodes n) { parent = parent })

abbrev pub with_children : ℕ → List ℕ → List NodeValue → List NodeValue
with_children n children nodes = slice_set nodes n (record (node_at nodes n) { children = children })

-- ---- places among the children of a node

abbrev pub last_in : ℕ → Place
last_in parent = record { parent = parent; next = None }

abbrev pub before_in : ℕ → ℕ → Place
before_in parent next = record { parent = parent; next = Some next }

abbrev pub is_number : ℕ → ℕ → Bool
is_number n m = m == n

-- how many children are before this one: all of them if it isn't a child; and no node is there twice
abbrev pub index_of : ℕ → List ℕ → ℕ
index_of n [] = 0
index_of n (c ∷ cs) = if not (c == n) || list_any (is_number n) cs then suc (index_of n cs) else 0

abbrev pub place_index : Option ℕ → List ℕ → ℕ
place_index None children = length children
place_index (Some next) children = index_of next children

-- ---- nodes are moved

abbrev pub without_child : ℕ → List ℕ → List ℕ
without_child n children = remove children (index_of n children)

abbrev pub remove_child : ℕ → ℕ → List NodeValue → List NodeValue
remove_child p n nodes = with_children p (without_child n (children_at nodes p)) nodes

abbrev pub detach_from : Option ℕ → ℕ → List NodeValue → List NodeValue
detach_from None n nodes = nodes
detach_from (Some p) n nodes = with_parent n None (remove_child p n nodes)

-- out of its parent
abbrev pub detach : ℕ → List NodeValue → List NodeValue
detach n nodes = detach_from (parent_at nodes n) n nodes

abbrev pub put_child : ℕ → Place → List NodeValue → List NodeValue
put_child n place nodes =
    with_children place.parent
    (insert (children_at nodes place.parent) (place_index place.next (children_at nodes place.parent)) n) nodes

-- a node without a parent to a place
abbrev pub put : ℕ → Place → List NodeValue → List NodeValue
put n place nodes = with_parent n (Some place.parent) (put_child n place nodes)

-- a node to a place, from where it is
abbrev pub attach : ℕ → Place → List NodeValue → List NodeValue
attach n place nodes = put n place (detach n nodes)

-- a new node, whose number is the next
abbrev pub add : KindValue → Place → List NodeValue → List NodeValue
add kind place nodes = put (length nodes) place (nodes ++ new_node kind ∷ [])

abbrev pub with_parents : ℕ → List ℕ → List NodeValue → List NodeValue
with_parents p [] nodes = nodes
with_parents p (c ∷ cs) nodes = with_parents p cs (with_parent c (Some p) nodes)

abbrev pub append_children : ℕ → List ℕ → List NodeValue → List NodeValue
append_children n more nodes = with_children n (children_at nodes n ++ more) nodes

-- all children of one node to another, after those that it has
abbrev pub move_children : ℕ → ℕ → List NodeValue → List NodeValue
move_children from to nodes =
    append_children to (children_at nodes from)
    (with_parents to (children_at nodes from) (with_children from [] nodes))

-- ---- texts

-- the child right before a place
abbrev pub child_before : ℕ → List ℕ → Option ℕ
child_before zero children = None
child_before (suc i) children = slice_get children i

abbrev pub preceding : Place → List NodeValue → Option ℕ
preceding place nodes =
    child_before (place_index place.next (children_at nodes place.parent)) (children_at nodes place.parent)

abbrev pub joined_with : List ℕ → ℕ → Option (List ℕ) → List NodeValue → Option (List NodeValue)
joined_with s n None nodes = None
joined_with s n (Some before) nodes = Some (with_kind n (text (before ++ s)) nodes)

-- at the end of a text; nothing if the node is none
abbrev pub joined : List ℕ → ℕ → List NodeValue → Option (List NodeValue)
joined s n nodes = joined_with s n (text_of (kind_at nodes n)) nodes

abbrev pub joined_to : List ℕ → Option ℕ → List NodeValue → Option (List NodeValue)
joined_to s None nodes = None
joined_to s (Some n) nodes = joined s n nodes

abbrev pub or_add : List ℕ → Place → List NodeValue → Option (List NodeValue) → List NodeValue
or_add s place nodes None = add (text s) place nodes
or_add s place nodes (Some new) = new

-- at the end of the text right before the place if there is one, else as a new text (13.2.6.1)
abbrev pub add_text : List ℕ → Place → List NodeValue → List NodeValue
add_text s place nodes = or_add s place nodes (joined_to s (preceding place nodes) nodes)

-- ---- attributes

abbrev pub is_named : List ℕ → AttributePair → Bool
is_named name a = bytes_eq a.name name

abbrev pub has_attribute : List ℕ → List AttributePair → Bool
has_attribute name attributes = list_any (is_named name) attributes

abbrev pub value_in : Option AttributePair → Option (List ℕ)
value_in None = None
value_in (Some a) = Some a.value

-- the value of the first attribute with this name
abbrev pub value_of : List ℕ → List AttributePair → Option (List ℕ)
value_of name attributes = value_in (find (is_named name) attributes)

abbrev pub with_missing : List AttributePair → List AttributePair → List AttributePair
with_missing attributes [] = attributes
with_missing attributes (a ∷ more) =
    if has_attribute a.name attributes then with_missing attributes more else with_missing (attributes ++ a ∷ []) more

abbrev pub kind_with_missing : List AttributePair → KindValue → KindValue
kind_with_missing more (element name attributes) = element name (with_missing attributes more)
kind_with_missing more kind = kind

-- the attributes that an element doesn't have yet (13.2.6.4.7, start tags of `html` and `body`)
abbrev pub add_missing : ℕ → List AttributePair → List NodeValue → List NodeValue
add_missing n more nodes = with_kind n (kind_with_missing more (kind_at nodes n)) nodes

-- ---- equal elements (13.2.4.3)

abbrev pub same_attribute : AttributePair → AttributePair → Bool
same_attribute a b = bytes_eq a.name b.name && bytes_eq a.value b.value

abbrev pub has_pair : List AttributePair → AttributePair → Bool
has_pair attributes a = list_any (same_attribute a) attributes

-- in any order; no name is twice in either
abbrev pub same_attributes : List AttributePair → List AttributePair → Bool
same_attributes these those = (length these == length those) && list_all (has_pair those) these

abbrev pub same_element : KindValue → KindValue → Bool
same_element (element name attributes) (element name' attributes') =
    same_element_name name name' && same_attributes attributes attributes'
same_element _ _ = false

-- Nodes are inserted (HTML Standard, 13.2.6.1).
use Rattle.std.specs.Prelude.{ℕ, ◌&&◌, if◌then◌else◌, List, [], ◌∷◌, length, Option, Some, None}
use Rattle.htmd_lexical.specs.AttributePairs.{AttributePair}
use Rattle.htmd_lexical.specs.declared.content_model.ContentModel.TheVariants.{Raw}
use Rattle.htmd_lexical.specs.declared.content_model.RawElement.{RawElement}
use Rattle.htmd_html5_state.specs.Names.{ElementNameValue, NameValue, html, other}
use Rattle.htmd_html5_state.specs.Nodes.{NodeValue, element, comment, doctype, parent_at, add, add_text}
use Rattle.htmd_html5_state.specs.Nodes.{last_in, before_in}
use Rattle.htmd_html5_state.specs.declared.document.Place.{Place}
use Rattle.htmd_html5_state.specs.OpenElements.{OpenValue, is_in, pop}
use Rattle.htmd_html5_state.specs.State.{StateValue, on_nodes, on_stack}
use Rattle.htmd_html5_state.specs.declared.names.TagName.TheVariants.{Table, Template}
use Rattle.htmd_html5_state.specs.declared.sets.NameSet.TheVariants.{Only, Fostering}

-- ---- the appropriate place for inserting a node

-- an open element for a node that is made
abbrev pub opened : ℕ → ElementNameValue → OpenValue
opened n name = record { node = n; name = name }

-- the current node, and the Document if nothing is open
abbrev pub current : List OpenValue → OpenValue
current [] = opened 0 (html (other []))
current (e ∷ es) = e

-- before a table in its parent; if it has none, in what is open around it
abbrev pub place_by_table : ℕ → ℕ → Option ℕ → Place
place_by_table table around None = last_in around
place_by_table table around (Some parent) = before_in parent table

-- by the innermost `template` or `table`, else in the outermost element
abbrev pub foster_place : List NodeValue → List OpenValue → Place
foster_place nodes [] = last_in 0
foster_place nodes (e ∷ []) = last_in e.node
foster_place nodes (e ∷ f ∷ es) =
    if is_in (Only Template) e then last_in e.node
    else if is_in (Only Table) e then place_by_table e.node f.node (parent_at nodes e.node)
    else foster_place nodes (f ∷ es)

-- for a node in this element
abbrev pub place_in : OpenValue → StateValue → Place
place_in target s =
    if s.foster_parenting && is_in Fostering target then foster_place s.nodes s.stack else last_in target.node

abbrev pub place : StateValue → Place
place s = place_in (current s.stack) s

-- ---- what is inserted

abbrev pub insert_text : List ℕ → StateValue → StateValue
insert_text text s = on_nodes (add_text text (place s)) s

-- a comment as the last child of a node
abbrev pub insert_comment_in : ℕ → List ℕ → StateValue → StateValue
insert_comment_in parent text s = on_nodes (add (comment text) (last_in parent)) s

abbrev pub insert_comment : List ℕ → StateValue → StateValue
insert_comment text s = insert_comment_in (current s.stack).node text s

abbrev pub insert_doctype : StateValue → StateValue
insert_doctype s = on_nodes (add doctype (last_in 0)) s

-- an element at a place, which is open then
abbrev pub insert_at : Place → ElementNameValue → List AttributePair → StateValue → StateValue
insert_at place name attributes s = record s {
  nodes = add (element name attributes) place s.nodes;
  stack = opened (length s.nodes) name ∷ s.stack;
}

abbrev pub insert_named : ElementNameValue → List AttributePair → StateValue → StateValue
insert_named name attributes s = insert_at (place s) name attributes s

-- an HTML element
abbrev pub insert_element : NameValue → List AttributePair → StateValue → StateValue
insert_element name attributes s = insert_named (html name) attributes s

-- `html`, in the Document
abbrev pub insert_root : NameValue → List AttributePair → StateValue → StateValue
insert_root name attributes s = insert_at (last_in 0) (html name) attributes s

-- an element that is closed at once
abbrev pub insert_void : NameValue → List AttributePair → StateValue → StateValue
insert_void name attributes s = on_stack pop (insert_element name attributes s)

-- an element of only text (13.2.6.2)
abbrev pub insert_raw : NameValue → RawElement → List AttributePair → StateValue → StateValue
insert_raw name raw attributes s = record (insert_element name attributes s) { content = Raw raw }

-- an element of HTML is open once more (13.2.6.4.6)
abbrev pub open_again : ℕ → NameValue → StateValue → StateValue
open_again n name s = on_stack (λ stack. opened n (html name) ∷ stack) s

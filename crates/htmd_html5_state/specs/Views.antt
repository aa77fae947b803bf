-- What the program's nodes, open elements and entries are.
use Rattle.std.specs.Prelude.{ℕ, Bool, true, false, List, [], ◌∷◌, map, string_bytes, Option, Some, None}
use Rattle.std.specs.Borrow.{Bor}
use Rattle.htmd_lexical.specs.Attributes.{pairs_of}
use Rattle.htmd_html5_state.specs.Names.{element_name_of, html, known, same_element_name}
use Rattle.htmd_html5_state.specs.Nodes.{KindValue, NodeValue, document, doctype, text, comment, element}
use Rattle.htmd_html5_state.specs.declared.children.Children.{Children}
use Rattle.htmd_html5_state.specs.declared.children.Children.TheVariants as kept
use Rattle.htmd_html5_state.specs.declared.document.Node.{Node}
use Rattle.htmd_html5_state.specs.declared.document.NodeKind.{NodeKind}
use Rattle.htmd_html5_state.specs.declared.document.NodeKind.TheVariants.{Document, Doctype, Text, Comment, Known}
use Rattle.htmd_html5_state.specs.declared.document.NodeKind.TheVariants.{Other}

abbrev pub kind_of : NodeKind → KindValue
kind_of Document = document
kind_of Doctype = doctype
kind_of (Text s) = text (string_bytes s)
kind_of (Comment s) = comment (string_bytes s)
kind_of (Known name attributes) = element (html (known name)) (pairs_of attributes.items)
kind_of (Other e) = element (element_name_of e.value.name) (pairs_of e.value.attributes.items)

-- where there is no node, it is that of the Document
abbrev pub kind_seen : Option (Bor NodeKind) → KindValue
kind_seen None = document
kind_seen (Some kind) = kind_of kind.now

abbrev pub is_element : KindValue → Bool
is_element (element name attributes) = true
is_element _ = false

-- whether both are elements with the same name
abbrev pub have_same_name : KindValue → KindValue → Bool
have_same_name (element name attributes) (element name' attributes') = same_element_name name name'
have_same_name _ _ = false

-- the numbers of children that are kept
abbrev pub numbers_of : Children → List ℕ
numbers_of kept.None = []
numbers_of (kept.One number) = number ∷ []
numbers_of (kept.Two numbers) = numbers
numbers_of (kept.Three numbers) = numbers
numbers_of (kept.More numbers) = numbers.value.items

abbrev pub node_of : Node → NodeValue
node_of node = record { kind = kind_of node.kind; parent = node.parent; children = numbers_of node.children }

abbrev pub nodes_of : List Node → List NodeValue
nodes_of nodes = map node_of nodes

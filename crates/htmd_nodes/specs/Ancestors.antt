-- The ancestors of a node, innermost first.
use Rattle.std.specs.Prelude.{ℕ, zero, suc, List, [], ◌∷◌, Option, Some, None, codes}
use Rattle.htmd_lexical.specs.AttributePairs.{AttributePair}
use Rattle.htmd_nodes.specs.Items.{Data, document_node, doctype_node, text_node, comment_node, element_node, Item}
use Rattle.htmd_nodes.specs.Items.{data_at, parent_at, depth_at}

-- what is known of a node that others are under
pub record Ancestor : Type 0 where
  pub tag : List ℕ
  pub attributes : List AttributePair

-- the tag of the Document is html
abbrev pub ancestor_of : Data → Ancestor
ancestor_of document_node = record { tag = codes "html"; attributes = [] }
ancestor_of doctype_node = record { tag = []; attributes = [] }
ancestor_of (text_node s) = record { tag = []; attributes = [] }
ancestor_of (comment_node s) = record { tag = []; attributes = [] }
ancestor_of (element_node name attributes) = record { tag = name; attributes = attributes }

-- the parent, and then what is above it
abbrev pub chain_from : (ℕ → List Ancestor) → List Item → Option ℕ → List Ancestor
chain_from above items None = []
chain_from above items (Some p) = ancestor_of (data_at items p) ∷ above p

-- this many steps up
unfoldable pub ancestors_up : ℕ → List Item → ℕ → List Ancestor
ancestors_up zero items id = []
ancestors_up (suc n) items id = chain_from (ancestors_up n items) items (parent_at items id)

-- as many ancestors as the node is deep
unfoldable pub ancestors_of : List Item → ℕ → List Ancestor
ancestors_of items id = ancestors_up (depth_at items id) items id

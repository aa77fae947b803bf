-- Trees that have no base.
use Rattle.std.proofs.Common.{◌≡◌, ℕ, List, refl, None, Vec, Global}
use Rattle.htmd_lexical.specs.declared.attribute.Attribute.{Attribute}
use Rattle.htmd_nodes.specs.NumberedTrees.{NumberedForest, with_children, value_tree}
use Rattle.htmd_nodes.specs.Views.{data_of}
use Rattle.htmd_nodes.specs.declared.tree.NodeData.{NodeData}
use Rattle.htmd_nodes.specs.declared.tree.NodeData.TheVariants.{Document, Doctype, Text, Comment, Element}
use Rattle.htmd_addresses.specs.Bases.{base_in}

-- only the Document and elements have a base
pub base-other : (id : ℕ) (d : NodeData) (f : NumberedForest) → (d ≡ Document → ⊥)
    → ((name : List ℕ) (attributes : Vec Attribute Global) → d ≡ Element name attributes → ⊥)
    → base_in (value_tree (with_children id (data_of d) f)) ≡ None
base-other id Document f g h = absurd (g refl)
base-other id Doctype f g h = refl
base-other id (Text s) f g h = refl
base-other id (Comment s) f g h = refl
base-other id (Element name attributes) f g h = absurd (h name attributes refl)

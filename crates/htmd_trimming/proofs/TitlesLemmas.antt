-- Whether a page has an `h1` that shows something, node by node.
use Rattle.std.proofs.Common.{◌≡◌, ◌<◌, ℕ, Bool, false, List, length, refl, sym, ap, ◌∙◌, Vec, String, Global}
use Rattle.std.specs.Prelude.{◌||◌, not, if◌then◌else◌, codes}
use Rattle.std.specs.Str.{bytes_eq}
use Rattle.htmd_lexical.specs.declared.attribute.Attribute.{Attribute}
use Rattle.htmd_nodes.specs.Items.{Data, document_node, doctype_node, text_node, comment_node, element_node, Item}
use Rattle.htmd_nodes.specs.Items.{IsTree, data_at, children_of}
use Rattle.htmd_nodes.specs.NumberedTrees.{NumberedForest, with_children, tree_of, forest_of}
use Rattle.htmd_nodes.specs.Views.{data_of}
use Rattle.htmd_nodes.specs.declared.tree.NodeData.{NodeData}
use Rattle.htmd_nodes.specs.declared.tree.NodeData.TheVariants.{Document, Doctype, Text, Comment, Element}
use Rattle.htmd_nodes.proofs.NumberedTreesLemmas.{tree-open}
use Rattle.htmd_shown.specs.Images.{is_image}
use Rattle.htmd_shown.specs.Spaces.{is_blank_text}
use Rattle.htmd_trimming.specs.Titles.{shows, some_shows, holds_h1, hold_h1}

-- ---- what shows

-- a node shows something, or what is below it does
abbrev pub shows_over : Data → Bool → Bool
shows_over document_node below = false
shows_over doctype_node below = false
shows_over (text_node s) below = not (is_blank_text s)
shows_over (comment_node s) below = false
shows_over (element_node name attributes) below = is_image name attributes || below

shows-open : (id : ℕ) (d : Data) (f : NumberedForest)
    → shows (with_children id d f) ≡ shows_over d (some_shows f)
shows-open id document_node f = refl
shows-open id doctype_node f = refl
shows-open id (text_node s) f = refl
shows-open id (comment_node s) f = refl
shows-open id (element_node name attributes) f = refl

pub node-shows : (items : List Item) (id : ℕ) (d : Data) → IsTree items → id < length items
    → d ≡ data_at items id
    → shows_over d (some_shows (forest_of (tree_of items) (children_of items id))) ≡ shows (tree_of items id)
node-shows items id d t l is =
    let below = forest_of (tree_of items) (children_of items id) in
    ap (λ x. shows_over x (some_shows below)) is
    ∙ sym (ap shows (tree-open items id t l) ∙ shows-open id (data_at items id) below)

-- only texts and elements do
pub shows-other : (d : NodeData) (below : Bool) → ((s : String Global) → d ≡ Text s → ⊥)
    → ((name : List ℕ) (attributes : Vec Attribute Global) → d ≡ Element name attributes → ⊥)
    → shows_over (data_of d) below ≡ false
shows-other Document below f h = refl
shows-other Doctype below f h = refl
shows-other (Text s) below f h = absurd (f s refl)
shows-other (Comment s) below f h = refl
shows-other (Element name attributes) below f h = absurd (h name attributes refl)

-- ---- headings

-- a node is an `h1` below which something shows, or has one below it
abbrev pub h1_over : Data → Bool → Bool → Bool
h1_over document_node shown below = below
h1_over doctype_node shown below = false
h1_over (text_node s) shown below = false
h1_over (comment_node s) shown below = false
h1_over (element_node name attributes) shown below = if bytes_eq name (codes "h1") then shown else below

h1-open : (id : ℕ) (d : Data) (f : NumberedForest)
    → holds_h1 (with_children id d f) ≡ h1_over d (some_shows f) (hold_h1 f)
h1-open id document_node f = refl
h1-open id doctype_node f = refl
h1-open id (text_node s) f = refl
h1-open id (comment_node s) f = refl
h1-open id (element_node name attributes) f = refl

pub node-h1 : (items : List Item) (id : ℕ) (d : Data) → IsTree items → id < length items
    → d ≡ data_at items id
    → h1_over d (some_shows (forest_of (tree_of items) (children_of items id)))
    (hold_h1 (forest_of (tree_of items) (children_of items id))) ≡ holds_h1 (tree_of items id)
node-h1 items id d t l is =
    let below = forest_of (tree_of items) (children_of items id) in
    ap (λ x. h1_over x (some_shows below) (hold_h1 below)) is
    ∙ sym (ap holds_h1 (tree-open items id t l) ∙ h1-open id (data_at items id) below)

-- only the Document and elements have one
pub h1-other : (d : NodeData) (shown below : Bool) → (d ≡ Document → ⊥)
    → ((name : List ℕ) (attributes : Vec Attribute Global) → d ≡ Element name attributes → ⊥)
    → h1_over (data_of d) shown below ≡ false
h1-other Document shown below f h = absurd (f refl)
h1-other Doctype shown below f h = refl
h1-other (Text s) shown below f h = refl
h1-other (Comment s) shown below f h = refl
h1-other (Element name attributes) shown below f h = absurd (h name attributes refl)

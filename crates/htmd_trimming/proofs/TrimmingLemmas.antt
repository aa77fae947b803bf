-- What is left of a node, and of what is below it.
use Rattle.std.proofs.Common.{◌≡◌, ℕ, ◌<◌, List, length, refl, sym, ap, ◌∙◌, true}
use Rattle.std.proofs.Common.{Option, Some, None, is_some}
use Rattle.std.proofs.lemmas.Bool.{false≢true}
use Rattle.htmd_values.specs.ValueTrees.{ValueForest, none}
use Rattle.htmd_nodes.specs.Items.{Data, document_node, doctype_node, text_node, comment_node, element_node, Item}
use Rattle.htmd_nodes.specs.Items.{IsTree, data_at, children_of, holds_children}
use Rattle.htmd_nodes.specs.NumberedTrees.{NumberedForest, with_children, tree_of, forest_of}
use Rattle.htmd_nodes.proofs.NumberedTreesLemmas.{tree-open}
use Rattle.htmd_shown.specs.Shown as shown
use Rattle.htmd_trimming.specs.declared.asked.Asked.{Asked}
use Rattle.htmd_trimming.specs.Fates.{Fate, gone, said, kept, fate_for}
use Rattle.htmd_trimming.specs.Trimming.{over, with_one, trimmed_tree, trimmed}
use Rattle.htmd_trimming.specs.FateViews.{node_over, number_of_kept, number_below, is_img, source_for, source_after}
use Rattle.htmd_trimming.specs.FateViews.{source_below}
use Rattle.htmd_trimming.proofs.LaidLemmas.{laid, laid-element, laid-within, laid-holds}

abbrev option_else : ℕ → Option ℕ → ℕ
option_else a None = a
option_else a (Some b) = b

number-is : (a b : ℕ) → Some a ≡ Some b → a ≡ b
number-is a b e = ap (λ (o : Option ℕ). option_else a o) e

some_none : {n : ℕ} → Some n ≡ None → ⊥
some_none e = false≢true (sym (ap is_some e))

-- ---- a node that was added

-- what an element is that was added, if others can be below it
pub record IsLaid (out mid : List Item) (under id : ℕ) (tree : ValueForest → ValueForest) : Type 0 where
  pub within : id < length mid
  pub holds : holds_children (data_at mid id) ≡ true
  pub over : (new : List Item) (f : ValueForest) → new ≡ laid mid id f → new ≡ laid out under (tree f)

laid-fate : (out mid : List Item) (under id : ℕ) (name : List ℕ) (f : Fate)
    → Some id ≡ number_of_kept f (length out) → mid ≡ laid out under (with_one (over name f none) none)
    → IsLaid out mid under id (λ inner. with_one (over name f inner) none)
laid-fate out mid under id name gone is e = absurd (some_none is)
laid-fate out mid under id name (said s) is e = absurd (some_none is)
laid-fate out mid under id name (kept attributes) is e =
    let n = number-is id (length out) is in
    record {
      within = laid-within out mid under id name attributes n e;
      holds = laid-holds out mid under id name attributes n e;
      over = laid-element out mid under id name attributes n e;
    }

fate-alone : (name : List ℕ) (f : Fate) (n : ℕ) (inner : ValueForest) → None ≡ number_of_kept f n
    → over name f none ≡ over name f inner
fate-alone name gone n inner e = refl
fate-alone name (said s) n inner e = refl
fate-alone name (kept attributes) n inner e = absurd (some_none (sym e))

module _ (asked : Asked) (source : Option (List ℕ)) where
  abbrev pub node_alone : Data → NumberedForest → ValueForest → ValueForest
  node_alone d children inner = with_one (node_over asked source d children inner) none

  pub laid-node : (out mid : List Item) (under id : ℕ) (d : Data) (children : NumberedForest)
      → Some id ≡ number_below asked source d children (length out)
      → mid ≡ laid out under (node_alone d children none) → IsLaid out mid under id (node_alone d children)
  laid-node out mid under id document_node children is e = absurd (some_none is)
  laid-node out mid under id doctype_node children is e = absurd (some_none is)
  laid-node out mid under id (text_node s) children is e = absurd (some_none is)
  laid-node out mid under id (comment_node s) children is e = absurd (some_none is)
  laid-node out mid under id (element_node name attributes) children is e =
      laid-fate out mid under id name (fate_for asked source name attributes children) is e

  -- nothing is below a node that isn't an element that stays
  none-below : (d : Data) (children : NumberedForest) (n : ℕ) (inner : ValueForest)
      → None ≡ number_below asked source d children n
      → node_over asked source d children none ≡ node_over asked source d children inner
  none-below document_node children n inner e = refl
  none-below doctype_node children n inner e = refl
  none-below (text_node s) children n inner e = refl
  none-below (comment_node s) children n inner e = refl
  none-below (element_node name attributes) children n inner e =
      fate-alone name (fate_for asked source name attributes children) n inner e

  -- ---- a node by what it is

  abbrev pub trimmed_below : Data → NumberedForest → ValueForest
  trimmed_below d children = trimmed asked (source_below d children) children

  tree-trimmed : (id : ℕ) (d : Data) (f : NumberedForest)
      → trimmed_tree asked source (with_children id d f) ≡ node_over asked source d f (trimmed_below d f)
  tree-trimmed id document_node f = refl
  tree-trimmed id doctype_node f = refl
  tree-trimmed id (text_node s) f = refl
  tree-trimmed id (comment_node s) f = refl
  tree-trimmed id (element_node name attributes) f = refl

  module _ (items : List Item) (t : IsTree items) (id : ℕ) (l : id < length items) (d : Data)
      (is : d ≡ data_at items id) (f : NumberedForest) (of : f ≡ forest_of (tree_of items) (children_of items id))
    where
      node-trimmed : trimmed_tree asked source (tree_of items id) ≡ node_over asked source d f (trimmed_below d f)
      node-trimmed =
          let below = forest_of (tree_of items) (children_of items id) in
          ap (trimmed_tree asked source) (tree-open items id t l)
          ∙ (tree-trimmed id (data_at items id) below
          ∙ (ap (λ x. node_over asked source x below (trimmed_below x below)) (sym is)
          ∙ ap (λ x. node_over asked source d x (trimmed_below d x)) (sym of)))

      -- a node without others below it
      pub node-only : (out new : List Item) (under : ℕ) → None ≡ number_below asked source d f (length out)
          → new ≡ laid out under (node_alone d f none)
          → new ≡ laid out under (with_one (trimmed_tree asked source (tree_of items id)) none)
      node-only out new under leaf e =
          e ∙ ap (λ o. laid out under (with_one o none))
          (none-below d f (length out) (trimmed_below d f) leaf ∙ sym node-trimmed)

      -- a node, and then what is below it
      pub node-over : (out mid new : List Item) (under k : ℕ)
          → Some k ≡ number_below asked source d f (length out)
          → mid ≡ laid out under (node_alone d f none) → new ≡ laid mid k (trimmed_below d f)
          → new ≡ laid out under (with_one (trimmed_tree asked source (tree_of items id)) none)
      node-over out mid new under k is_number e g =
          (laid-node out mid under k d f is_number e).over new (trimmed_below d f) g
          ∙ ap (λ o. laid out under (with_one o none)) (sym node-trimmed)

-- ---- nodes beside each other

img-open : (id : ℕ) (d : Data) (f : NumberedForest) → shown.is_img (with_children id d f) ≡ is_img d
img-open id document_node f = refl
img-open id doctype_node f = refl
img-open id (text_node s) f = refl
img-open id (comment_node s) f = refl
img-open id (element_node name attributes) f = refl

module _ (items : List Item) (t : IsTree items) (id : ℕ) (l : id < length items) (d : Data)
    (is : d ≡ data_at items id) where
  img-at : is_img d ≡ shown.is_img (tree_of items id)
  img-at =
      ap is_img is
      ∙ sym (ap shown.is_img (tree-open items id t l)
      ∙ img-open id (data_at items id) (forest_of (tree_of items) (children_of items id)))

  pub source-for : (source : Option (List ℕ)) → source_for source d ≡ shown.source_for source (tree_of items id)
  source-for source = rw img-at refl

  pub source-after : (source : Option (List ℕ))
      → source_after source d ≡ shown.source_after source (tree_of items id)
  source-after source = rw img-at refl

-- Nodes that are a formula, by what they are.
use Rattle.std.proofs.Common.{◌≡◌, ◌<◌, ℕ, Bool, true, false, List, length, refl, sym, ap, ◌∙◌}
use Rattle.htmd_nodes.specs.Items.{Data, document_node, doctype_node, text_node, comment_node, element_node, Item}
use Rattle.htmd_nodes.specs.Items.{IsTree, data_at, children_of}
use Rattle.htmd_nodes.specs.NumberedTrees.{NumberedForest, more, with_children, tree_of, forest_of}
use Rattle.htmd_nodes.proofs.NumberedTreesLemmas.{tree-open}
use Rattle.htmd_trimming.specs.FateViews as views
use Rattle.htmd_trimming.specs.Formulas.{is_blank, is_math, holds_math}

blank-open : (id : ℕ) (d : Data) (f : NumberedForest) → is_blank (with_children id d f) ≡ views.is_blank d
blank-open id document_node f = refl
blank-open id doctype_node f = refl
blank-open id (text_node s) f = refl
blank-open id (comment_node s) f = refl
blank-open id (element_node name attributes) f = refl

math-open : (id : ℕ) (d : Data) (f : NumberedForest) → is_math (with_children id d f) ≡ views.is_math d
math-open id document_node f = refl
math-open id doctype_node f = refl
math-open id (text_node s) f = refl
math-open id (comment_node s) f = refl
math-open id (element_node name attributes) f = refl

module _ (items : List Item) (t : IsTree items) (id : ℕ) (l : id < length items) (d : Data)
    (is : d ≡ data_at items id) where
  blank-at : is_blank (tree_of items id) ≡ views.is_blank d
  blank-at =
      ap is_blank (tree-open items id t l)
      ∙ (blank-open id (data_at items id) (forest_of (tree_of items) (children_of items id))
      ∙ ap views.is_blank (sym is))

  math-at : is_math (tree_of items id) ≡ views.is_math d
  math-at =
      ap is_math (tree-open items id t l)
      ∙ (math-open id (data_at items id) (forest_of (tree_of items) (children_of items id))
      ∙ ap views.is_math (sym is))

  -- what decides at a node, of which those after it decide
  pub passed-on : (found : Bool) (rest : NumberedForest) → views.is_blank d ≡ true
      → holds_math found (more (tree_of items id) rest) ≡ holds_math found rest
  passed-on found rest e = let blank : is_blank (tree_of items id) ≡ true = blank-at ∙ e in rw blank refl

  pub found-here : (rest : NumberedForest) → views.is_blank d ≡ false → views.is_math d ≡ true
      → holds_math false (more (tree_of items id) rest) ≡ holds_math true rest
  found-here rest e g =
      let other : is_blank (tree_of items id) ≡ false = blank-at ∙ e in
      let math : is_math (tree_of items id) ≡ true = math-at ∙ g in
      rw (other, math) refl

  pub found-before : (rest : NumberedForest) → views.is_blank d ≡ false
      → holds_math true (more (tree_of items id) rest) ≡ false
  found-before rest e = let other : is_blank (tree_of items id) ≡ false = blank-at ∙ e in rw other refl

  pub found-other : (found : Bool) (rest : NumberedForest) → views.is_blank d ≡ false → views.is_math d ≡ false
      → holds_math found (more (tree_of items id) rest) ≡ false
  found-other true rest e g = found-before rest e
  found-other false rest e g =
      let other : is_blank (tree_of items id) ≡ false = blank-at ∙ e in
      let no_math : is_math (tree_of items id) ≡ false = math-at ∙ g in
      rw (other, no_math) refl

-- Nodes of a page, by what they are.
use Rattle.std.proofs.Common.{◌≡◌, ℕ, ◌<◌, List, length, sym, ap, ◌∙◌, All}
use Rattle.std.proofs.lemmas.List.Elements.{All-from_get_or}
use Rattle.htmd_lexical.specs.AttributePairs.{AttributePair}
use Rattle.htmd_nodes.specs.Items.{Data, element_node, Item, IsTree, data_at, children_of}
use Rattle.htmd_nodes.specs.NumberedTrees.{NumberedTree, NumberedForest, with_children, tree_of, forest_of, element}
use Rattle.htmd_nodes.proofs.NumberedTreesLemmas.{tree-open, lower_child}

module _ (items : List Item) (t : IsTree items) (id : ℕ) (l : id < length items) where
  abbrev pub below : NumberedForest
  below = forest_of (tree_of items) (children_of items id)

  -- what a function says of a node's tree, by its data
  pub by_data : {A : Type 0} (f : NumberedTree → A) (d : Data) → data_at items id ≡ d
      → f (tree_of items id) ≡ f (with_children id d below)
  by_data f d e = ap f (tree-open items id t l) ∙ ap (λ x. f (with_children id x below)) e

  pub element_open : (name : List ℕ) (attributes pairs : List AttributePair) (children : List ℕ)
      → data_at items id ≡ element_node name attributes → pairs ≡ attributes
      → children ≡ children_of items id
      → tree_of items id ≡ element id name pairs (forest_of (tree_of items) children)
  element_open name attributes pairs children e f g =
      tree-open items id t l ∙ ap (λ x. with_children id x below) e
      ∙ ap (λ x. element id name x below) (sym f)
      ∙ ap (λ x. element id name pairs (forest_of (tree_of items) x)) (sym g)

  pub children_within : All (λ child. child < length items) (children_of items id)
  children_within = All-from_get_or (λ child. child < length items) (children_of items id) 0
      (λ k m. (lower_child items id k t l m).1)

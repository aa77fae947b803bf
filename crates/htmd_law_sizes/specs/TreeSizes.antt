-- How big a tree is.
use Rattle.std.specs.Prelude.{ℕ, suc, ◌+◌, List, [], ◌∷◌, length}
use Rattle.htmd_lexical.specs.AttributePairs.{AttributePair}
use Rattle.htmd_nodes.specs.NumberedTrees.{NumberedTree, document, doctype, text, comment, element, NumberedForest}
use Rattle.htmd_nodes.specs.NumberedTrees.{none}
use Rattle.htmd_nodes.specs.NumberedTrees.{more}

-- the bytes of their values
abbrev pub size_of_values : List AttributePair → ℕ
size_of_values [] = 0
size_of_values (a ∷ attributes) = length a.value + size_of_values attributes

-- Each node counts one, and so does each byte of a text and of an attribute's value.
abbrev mutual
  pub size_of_tree : NumberedTree → ℕ
  size_of_tree (document id children) = suc (size_of_forest children)
  size_of_tree (doctype id) = 1
  size_of_tree (text id s) = suc (length s)
  size_of_tree (comment id s) = 1
  size_of_tree (element id name attributes children) = suc (size_of_values attributes + size_of_forest children)

  pub size_of_forest : NumberedForest → ℕ
  size_of_forest none = 0
  size_of_forest (more tree trees) = size_of_tree tree + size_of_forest trees

-- What the document of a tree is normal for: texts.
use Rattle.std.specs.Prelude.{Bool, true, ◌&&◌}
use Rattle.std.specs.List.{list_all}
use Rattle.std.specs.Str.{is_utf8}
use Rattle.htmd_lexical.specs.AttributePairs.{AttributePair}
use Rattle.htmd_nodes.specs.NumberedTrees.{NumberedTree, document, doctype, text, comment, element, NumberedForest}
use Rattle.htmd_nodes.specs.NumberedTrees.{none}
use Rattle.htmd_nodes.specs.NumberedTrees.{more}

abbrev pub is_text_value : AttributePair → Bool
is_text_value a = is_utf8 a.value

abbrev mutual
  -- The texts and the values are UTF-8, as they are in every tree of the source.
  pub is_text_tree : NumberedTree → Bool
  is_text_tree (document id children) = are_text_trees children
  is_text_tree (doctype id) = true
  is_text_tree (text id s) = is_utf8 s
  is_text_tree (comment id s) = true
  is_text_tree (element id name attributes children) = list_all is_text_value attributes && are_text_trees children

  pub are_text_trees : NumberedForest → Bool
  are_text_trees none = true
  are_text_trees (more tree trees) = is_text_tree tree && are_text_trees trees

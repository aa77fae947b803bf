-- A page whose elements have other attributes.
use Rattle.std.specs.Prelude.{ℕ, List}
use Rattle.htmd_lexical.specs.AttributePairs.{AttributePair}
use Rattle.htmd_values.specs.ValueTrees.{ValueTree, document, doctype, text, comment, element}
use Rattle.htmd_values.specs.ValueTrees.{ValueForest, none, more}
use Rattle.htmd_nodes.specs.Items.{Item}
use Rattle.htmd_nodes.specs.Layout.{document_items}
use Rattle.htmd_nodes.specs.NumberedTrees.{value_at}

-- the attributes of an element, by its name and those that it had
abbrev pub Rule : Type 0
Rule = List ℕ → List AttributePair → List AttributePair

-- they stay
abbrev pub unchanged : Rule
unchanged name attributes = attributes

-- trees, and then others
abbrev pub joined : ValueForest → ValueForest → ValueForest
joined none others = others
joined (more tree trees) others = more tree (joined trees others)

abbrev mutual
  -- trees whose elements have the rule's attributes; no Document is below another one, and one that is isn't copied
  pub rewritten : Rule → ValueForest → ValueForest
  rewritten rule none = none
  rewritten rule (more tree trees) = joined (rewritten_tree rule tree) (rewritten rule trees)

  pub rewritten_tree : Rule → ValueTree → ValueForest
  rewritten_tree rule (document children) = none
  rewritten_tree rule doctype = more doctype none
  rewritten_tree rule (text s) = more (text s) none
  rewritten_tree rule (comment s) = more (comment s) none
  rewritten_tree rule (element name attributes children) =
      more (element name (rule name attributes) (rewritten rule children)) none

-- the children of a Document
abbrev pub children_of_document : ValueTree → ValueForest
children_of_document (document children) = children
children_of_document doctype = none
children_of_document (text s) = none
children_of_document (comment s) = none
children_of_document (element name attributes children) = none

-- the page with the rule's attributes
abbrev pub rewritten_page : Rule → List Item → List Item
rewritten_page rule items = document_items (rewritten rule (children_of_document (value_at items 0)))

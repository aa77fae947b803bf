-- A page of which what was asked for is left.
use Rattle.std.specs.Prelude.{ℕ, Bool, true, false, if◌then◌else◌, List, Option, Some, None}
use Rattle.htmd_values.specs.ValueTrees.{ValueTree, doctype, text, comment, element, ValueForest, none, more}
use Rattle.htmd_nodes.specs.Items.{Item}
use Rattle.htmd_nodes.specs.Layout.{document_items}
use Rattle.htmd_nodes.specs.NumberedTrees.{NumberedTree, NumberedForest, tree_of}
use Rattle.htmd_nodes.specs.NumberedTrees as page
use Rattle.htmd_shown.specs.Attributes.{is_filled}
use Rattle.htmd_shown.specs.Images.{picture_source}
use Rattle.htmd_shown.specs.Shown.{source_for, source_after}
use Rattle.htmd_trimming.specs.declared.asked.Asked.{Asked}
use Rattle.htmd_trimming.specs.declared.asked.Images.{Images}
use Rattle.htmd_trimming.specs.declared.asked.Images.TheVariants.{Keep}
use Rattle.htmd_trimming.specs.Fates.{Fate, gone, said, kept, fate_for}

-- what is left of an element: a text, unless it is empty, or itself over what is below it
abbrev pub over : List ℕ → Fate → ValueForest → Option ValueTree
over name gone inner = None
over name (said s) inner = if is_filled s then Some (text s) else None
over name (kept attributes) inner = Some (element name attributes inner)

abbrev pub with_one : Option ValueTree → ValueForest → ValueForest
with_one None trees = trees
with_one (Some tree) trees = more tree trees

abbrev mutual
  -- what is left of a tree, if something is, but for a Document; source: what a picture gives it
  pub trimmed_tree : Asked → Option (List ℕ) → NumberedTree → Option ValueTree
  trimmed_tree asked source (page.document id children) = None
  trimmed_tree asked source (page.doctype id) = Some doctype
  trimmed_tree asked source (page.text id s) = Some (text s)
  trimmed_tree asked source (page.comment id s) = Some (comment s)
  trimmed_tree asked source (page.element id name attributes children) =
      over name (fate_for asked source name attributes children)
      (trimmed asked (picture_source name children) children)

  -- what is left of trees beside each other; source: what a picture gives the first `img` among them
  pub trimmed : Asked → Option (List ℕ) → NumberedForest → ValueForest
  trimmed asked source page.none = none
  trimmed asked source (page.more tree trees) =
      with_one (trimmed_tree asked (source_for source tree) tree) (trimmed asked (source_after source tree) trees)

-- the children of a Document
abbrev pub children_of_document : NumberedTree → NumberedForest
children_of_document (page.document id children) = children
children_of_document _ = page.none

abbrev pub trimmed_page : Asked → List Item → List Item
trimmed_page asked items = document_items (trimmed asked None (children_of_document (tree_of items 0)))

-- nothing is asked for, so all stays
abbrev pub nothing : Asked
nothing = record { visible = false; images = Keep; links_as_text = false; untitled = false }

-- without what is hidden
abbrev pub visible_page : List Item → List Item
visible_page items = trimmed_page (record nothing { visible = true }) items

-- with images and links as they are asked for
abbrev pub plainer_page : Images → Bool → List Item → List Item
plainer_page images links_as_text items =
    trimmed_page (record nothing { images = images; links_as_text = links_as_text }) items

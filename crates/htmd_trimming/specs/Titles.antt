-- A page that says its title.
use Rattle.std.specs.Prelude.{ℕ, Bool, false, not, ◌||◌, if◌then◌else◌, List, [], None, true, codes}
use Rattle.std.specs.Str.{bytes_eq}
use Rattle.htmd_values.specs.ValueTrees.{ValueTree, text, element, none, more}
use Rattle.htmd_nodes.specs.Items.{Item}
use Rattle.htmd_nodes.specs.Layout.{document_items}
use Rattle.htmd_nodes.specs.NumberedTrees.{NumberedTree, NumberedForest, tree_of}
use Rattle.htmd_nodes.specs.NumberedTrees as page
use Rattle.htmd_shown.specs.Images.{is_image}
use Rattle.htmd_shown.specs.Spaces.{is_blank_text}
use Rattle.htmd_trimming.specs.Trimming.{trimmed, children_of_document, nothing}

abbrev mutual
  -- a tree shows something, as a heading may: a text that isn't blank, or an image
  pub shows : NumberedTree → Bool
  shows (page.document id children) = false
  shows (page.doctype id) = false
  shows (page.text id s) = not (is_blank_text s)
  shows (page.comment id s) = false
  shows (page.element id name attributes children) = is_image name attributes || some_shows children

  pub some_shows : NumberedForest → Bool
  some_shows page.none = false
  some_shows (page.more tree trees) = shows tree || some_shows trees

abbrev mutual
  -- a tree is an `h1` that shows something, or has one below it
  pub holds_h1 : NumberedTree → Bool
  holds_h1 (page.document id children) = hold_h1 children
  holds_h1 (page.doctype id) = false
  holds_h1 (page.text id s) = false
  holds_h1 (page.comment id s) = false
  holds_h1 (page.element id name attributes children) =
      if bytes_eq name (codes "h1") then some_shows children else hold_h1 children

  pub hold_h1 : NumberedForest → Bool
  hold_h1 page.none = false
  hold_h1 (page.more tree trees) = holds_h1 tree || hold_h1 trees

abbrev pub heading : List ℕ → ValueTree
heading title = element (codes "h1") [] (more (text title) none)

-- the page; where it has no `h1` that shows something, after a heading with its title, and then without elements
-- `title`
abbrev pub titled_page : List ℕ → List Item → List Item
titled_page title items =
    if holds_h1 (tree_of items 0) then items
    else document_items (more (heading title)
    (trimmed (record nothing { untitled = true }) None (children_of_document (tree_of items 0))))

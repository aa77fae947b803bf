-- Elements of a page, as the source keeps them.
use Rattle.std.specs.Prelude.{Bool, true, false, List}
use Rattle.htmd_lexical.specs.Attributes.{pairs_of}
use Rattle.htmd_nodes.specs.Items.{Item}
use Rattle.htmd_nodes.specs.NumberedTrees.{NumberedTree, text, element, tree_of, forest_of}
pub use Rattle.htmd_shown.specs.Repeats.{is_element}
use Rattle.htmd_shown.specs.declared.page.Element.{Element}

abbrev pub element_in : List Item → Element → NumberedTree
element_in items e = element e.node e.name.now (pairs_of e.attrs.now) (forest_of (tree_of items) e.children.now)

abbrev pub is_text : NumberedTree → Bool
is_text (text id s) = true
is_text _ = false

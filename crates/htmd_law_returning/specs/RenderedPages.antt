-- The page of what is read: a document with an empty `head` and the trees of what is read in its `body`.
use Rattle.htmd_nodes.specs.NumberedTrees.{NumberedTree, tree_of}
use Rattle.htmd_nodes.specs.Layout.{document_items}
use Rattle.htmd_grammar.specs.HtmlDocuments.{skeleton}
use Rattle.htmd_commonmark_reading.specs.Markup.{Blocks}
use Rattle.htmd_law_rendering.specs.RenderedTrees.{trees_of}

-- the tree with its numbers, which readers of HTML make
abbrev pub page_of : Blocks → NumberedTree
page_of bs = tree_of (document_items (skeleton (trees_of bs))) 0

-- Documents of pages, as calls give them.
use Rattle.std.specs.Prelude.{ℕ, Bool, List}
use Rattle.htmd_nodes.specs.NumberedTrees.{NumberedTree, tree_of}
use Rattle.htmd_html5.specs.Html5Documents.{html5_document}
use Rattle.htmd_document.specs.Documents.{Blocks}
use Rattle.htmd_document_of_tree.specs.declared.anchors.Anchors.{Anchors}
use Rattle.htmd_document_of_tree.specs.TreeDocuments.{document_of_tree}
use Rattle.htmd_law_returning.specs.ReturningLaws.{whole_sight}

-- any page, as browsers read it
abbrev pub page_tree : Bool → List ℕ → NumberedTree
page_tree scripting html = tree_of (html5_document scripting html) 0

-- the document of it, rich or not, with nothing skipped
abbrev pub page_document : Anchors → Bool → Bool → List ℕ → Blocks
page_document anchors scripting is_rich html =
    document_of_tree anchors (whole_sight scripting is_rich) (page_tree scripting html)

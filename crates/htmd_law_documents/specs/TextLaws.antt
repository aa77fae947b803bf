-- The laws of texts.
use Rattle.std.specs.Prelude.{◌≡◌, Bool, true, false}
use Rattle.htmd_nodes.specs.NumberedTrees.{NumberedTree}
use Rattle.htmd_flow.specs.Flows.{document_of}
use Rattle.htmd_shown.specs.Shown.{Sight, shown_in}
use Rattle.htmd_shown.specs.SimpleTrees.{Simples}
use Rattle.htmd_document_of_tree.specs.declared.anchors.Anchors.{Anchors}
use Rattle.htmd_document_of_tree.specs.TreeDocuments.{document_of_tree}
use Rattle.htmd_law_documents.specs.DocumentTexts.{text_of_blocks, visible}
use Rattle.htmd_law_documents.specs.PageTexts.{is_whole_page, text_of_page}
use Rattle.htmd_law_documents.specs.SaidTexts.{SayAll}
use Rattle.htmd_law_documents.specs.SimpleForms.{AreSound}
use Rattle.htmd_law_documents.specs.SimpleTexts.{text_of_simples}
use Rattle.htmd_law_documents.specs.TreeForms.{is_text_tree}

-- Every visible character of these trees stands in their document that isn't rich, in order, and no other.
abbrev pub KeepsText : Simples → Type 0
KeepsText trees = visible (text_of_blocks (document_of false trees)) ≡ visible (text_of_simples false false trees)

-- The same in a document that is rich or not, whether a table is one of rows and columns or not.
abbrev pub SaysText : Bool → Simples → Type 0
SaysText is_rich trees = SayAll false false trees (visible (text_of_blocks (document_of is_rich trees)))

-- So it is for all trees of texts that are made.
abbrev pub TextOfDocument : Type 0
TextOfDocument = (trees : Simples) → AreSound trees
    → KeepsText trees × ((is_rich : Bool) → SaysText is_rich trees)

-- Every visible character of all that shows of a page stands in its document, in order, and no other: whichever anchors
-- it has, and whether a table is one of rows and columns or not.
abbrev pub KeepsTextOfTree : Anchors → Sight → NumberedTree → Type 0
KeepsTextOfTree which sight tree =
    SayAll false false (shown_in sight tree)
    (visible (text_of_blocks (document_of_tree which sight tree)))

-- So it is for every tree of texts.
abbrev pub TextOfTree : Type 0
TextOfTree = (which : Anchors) (sight : Sight) (tree : NumberedTree) → is_text_tree tree ≡ true
    → KeepsTextOfTree which sight tree

-- Every visible character of a page shows, and no other, where nothing of it is a line number, a permalink or a second
-- copy of a formula; formulas as in a line.
abbrev pub ShowsAll : Type 0
ShowsAll = (sight : Sight) (tree : NumberedTree) → is_text_tree tree ≡ true → is_whole_page sight tree ≡ true
    → visible (text_of_simples true false (shown_in sight tree)) ≡ visible (text_of_page sight tree)

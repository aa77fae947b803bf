-- The law of wrappers: formats and links around characters.
use Rattle.std.specs.Prelude.{◌≡◌, ℕ, Bool, false, List}
use Rattle.htmd_nodes.specs.Items.{Item, HoldTexts}
use Rattle.htmd_nodes.specs.NumberedTrees.{NumberedTree, tree_of}
use Rattle.htmd_document_of_tree.specs.declared.anchors.Anchors.{Anchors}
use Rattle.htmd_document_of_tree.specs.Anchors.{anchored}
use Rattle.htmd_document_of_tree.specs.FirstPieces.{pieced_all}
use Rattle.htmd_document_of_tree.specs.Limits.{limited}
use Rattle.htmd_document_of_tree.specs.TreeDocuments.{document_of_tree}
use Rattle.htmd_flow.specs.Contexts.{bare_in}
use Rattle.htmd_flow.specs.Flows.{document_of}
use Rattle.htmd_shown.specs.Shown.{Sight, shown_in}
use Rattle.htmd_shown.specs.SimpleTrees.{Simples}
use Rattle.htmd_law_documents.specs.DocumentWrappers.{wrappers_of_blocks}
use Rattle.htmd_law_documents.specs.SimpleForms.{AreSound, HaveLinks}
use Rattle.htmd_law_documents.specs.TreeWrappers.{wrappers_of_trees}

-- Each visible character has in the document the formats, the link and the code around it that it has in these trees.
abbrev pub KeepsWrappers : Bool → Simples → Type 0
KeepsWrappers is_rich trees =
    wrappers_of_blocks (document_of is_rich trees) ≡ wrappers_of_trees trees (bare_in is_rich) false

-- So it is for all trees of texts that are made, in which no two links have one number.
abbrev pub WrappersOfDocument : Type 0
WrappersOfDocument = (is_rich : Bool) (trees : Simples) (link_at : ℕ → List ℕ) → AreSound trees
    → HaveLinks link_at trees
    → KeepsWrappers is_rich trees

-- what the document of a page is made of: what shows, within the budget of its links, with anchors, and each link
-- around its first pieces
abbrev pub final_trees : Anchors → Sight → NumberedTree → Simples
final_trees which sight tree = pieced_all (anchored which sight.is_rich (limited (shown_in sight tree)))

abbrev pub KeepsWrappersOfTree : Anchors → Sight → NumberedTree → Type 0
KeepsWrappersOfTree which sight tree =
    wrappers_of_blocks (document_of_tree which sight tree)
    ≡ wrappers_of_trees (final_trees which sight tree) (bare_in sight.is_rich) false

-- So it is for every tree of the source, in which no two nodes have one number.
abbrev pub WrappersOfTree : Type 0
WrappersOfTree = (which : Anchors) (sight : Sight) (items : List Item) → HoldTexts items
    → KeepsWrappersOfTree which sight (tree_of items 0)

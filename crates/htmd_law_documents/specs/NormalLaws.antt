-- The laws of the normal form.
use Rattle.std.specs.Prelude.{◌≡◌, true}
use Rattle.htmd_nodes.specs.NumberedTrees.{NumberedTree}
use Rattle.htmd_shown.specs.Shown.{Sight}
use Rattle.htmd_document_of_tree.specs.declared.anchors.Anchors.{Anchors}
use Rattle.htmd_document_of_tree.specs.TreeDocuments.{document_of_tree}
use Rattle.htmd_document.specs.LoneAnchors.{all_stand}
use Rattle.htmd_document.specs.NormalDocuments.{IsNormal}
use Rattle.htmd_law_documents.specs.TableLengths.{have_right_tables}
use Rattle.htmd_law_documents.specs.TreeForms.{is_text_tree}

-- the document of every tree of texts is normal, whichever anchors it has
abbrev pub DocumentsAreNormal : Type 0
DocumentsAreNormal = (which : Anchors) (sight : Sight) (tree : NumberedTree) → is_text_tree tree ≡ true
    → IsNormal (document_of_tree which sight tree)

-- no table of it has columns that it doesn't need
abbrev pub TablesHaveRightLength : Type 0
TablesHaveRightLength = (which : Anchors) (sight : Sight) (tree : NumberedTree) → is_text_tree tree ≡ true
    → have_right_tables (document_of_tree which sight tree) ≡ true

-- a paragraph of anchors alone stands right before a code block, or at its end
abbrev pub LoneAnchorsStand : Type 0
LoneAnchorsStand = (which : Anchors) (sight : Sight) (tree : NumberedTree) → is_text_tree tree ≡ true
    → all_stand true (document_of_tree which sight tree) ≡ true

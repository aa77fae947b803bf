-- The document of a tree.
use Rattle.std.specs.Prelude.{Bool}
use Rattle.htmd_nodes.specs.NumberedTrees.{NumberedTree}
use Rattle.htmd_document.specs.Documents.{Blocks}
use Rattle.htmd_flow.specs.Flows as flow
use Rattle.htmd_shown.specs.SimpleTrees.{Simples}
use Rattle.htmd_shown.specs.Shown.{Sight, shown_in}
use Rattle.htmd_document_of_tree.specs.declared.anchors.Anchors.{Anchors}
use Rattle.htmd_document_of_tree.specs.Anchors.{anchored}
use Rattle.htmd_document_of_tree.specs.FirstPieces.{pieced_all}
use Rattle.htmd_document_of_tree.specs.Limits.{limited}

-- the blocks of what shows: within the budget of its links, with anchors, and each link around its first pieces
unfoldable pub document_by : Anchors → Bool → Simples → Blocks
document_by which is_rich trees = flow.document_of is_rich (pieced_all (anchored which is_rich (limited trees)))

-- the blocks of all that shows of a tree
unfoldable pub document_of_tree : Anchors → Sight → NumberedTree → Blocks
document_of_tree which sight tree = document_by which sight.is_rich (shown_in sight tree)

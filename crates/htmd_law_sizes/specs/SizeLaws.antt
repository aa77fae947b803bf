-- How long the Markdown of a document is at most, and how big the document of a page.
use Rattle.std.specs.Prelude.{◌+◌, ◌*◌, ◌≤◌, length, Bool}
use Rattle.htmd_nodes.specs.NumberedTrees.{NumberedTree}
use Rattle.htmd_document.specs.Documents.{Blocks}
use Rattle.htmd_document.specs.NormalDocuments.{IsNormal}
use Rattle.htmd_shown.specs.Shown.{Sight, shown_in}
use Rattle.htmd_shown.specs.SimpleTrees.{Simples}
use Rattle.htmd_flow.specs.Flows.{document_of}
use Rattle.htmd_document_of_tree.specs.declared.anchors.Anchors.{Anchors}
use Rattle.htmd_document_of_tree.specs.Anchors.{anchored}
use Rattle.htmd_document_of_tree.specs.FirstPieces.{pieced_all}
use Rattle.htmd_document_of_tree.specs.Limits.{limited}
use Rattle.htmd_document_of_tree.specs.TreeDocuments.{document_of_tree}
use Rattle.htmd_commonmark.specs.declared.options.DocumentOptions.{DocumentOptions}
use Rattle.htmd_commonmark.specs.DocumentMarkdown.{markdown_of}
use Rattle.htmd_law_sizes.specs.DocumentSizes.{size_of, margin_of, lean}
use Rattle.htmd_law_sizes.specs.SimpleSizes.{size_of_simples}
use Rattle.htmd_law_sizes.specs.TreeSizes.{size_of_tree}

-- The Markdown of any document, whatever the options, is at most as many times its size as the margin says.
abbrev pub MarkdownIsBounded : Type 0
MarkdownIsBounded =
    (options : DocumentOptions) (document : Blocks)
    → length (markdown_of options document) ≤ (256 + 4 * margin_of document) * size_of document

-- That of a normal document has at most 2,048 times its size.
abbrev pub NormalMarkdownIsBounded : Type 0
NormalMarkdownIsBounded =
    (options : DocumentOptions) (document : Blocks)
    → IsNormal document → length (markdown_of options document) ≤ 2048 * size_of document

-- The simpler tree of a page is at most 16 times as big as the page's.
abbrev pub ShownIsBounded : Type 0
ShownIsBounded = (sight : Sight) (tree : NumberedTree)
    → size_of_simples (shown_in sight tree) ≤ 16 * size_of_tree tree

-- Within its budget, with its anchors, and with each link around its first pieces, it is at most 26 times as big.
abbrev pub PreparedIsBounded : Type 0
PreparedIsBounded =
    (which : Anchors) (is_rich : Bool) (trees : Simples)
    → size_of_simples (pieced_all (anchored which is_rich (limited trees))) ≤ 26 * size_of_simples trees

-- The document of a simpler tree, rich or not, is at most 400 times as big as the tree, what can be repeated aside.
abbrev pub FlowIsBounded : Type 0
FlowIsBounded = (is_rich : Bool) (trees : Simples)
    → lean (document_of is_rich trees) ≤ 400 * size_of_simples trees + 1

-- Its quotes and items put at most 2,208 bytes before a line.
abbrev pub MarginIsBounded : Type 0
MarginIsBounded = (is_rich : Bool) (trees : Simples) → margin_of (document_of is_rich trees) ≤ 2208

-- So the document of any tree is at most 1,275,392 times as big as the tree, and 262,151. The numbers are by far not
-- the least: with one price for each node and each byte of a stage, each stage is one induction with sums alone.
abbrev pub DocumentIsBounded : Type 0
DocumentIsBounded =
    (which : Anchors) (sight : Sight) (tree : NumberedTree)
    → size_of (document_of_tree which sight tree) ≤ 1275392 * size_of_tree tree + 262151

-- And its Markdown, whatever the options, has at most 9,088 bytes for each unit of that.
abbrev pub PagesAreBounded : Type 0
PagesAreBounded =
    (which : Anchors) (sight : Sight) (tree : NumberedTree) (options : DocumentOptions)
    → length (markdown_of options (document_of_tree which sight tree))
    ≤ 9088 * (1275392 * size_of_tree tree + 262151)

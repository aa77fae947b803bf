-- What a reader of CommonMark sees of the Markdown of a document is the document.
use Rattle.std.specs.Prelude.{◌≡◌, ◌≤◌, ◌<◌, ◌^◌, ℕ, true, false, List, [], ◌∷◌, ◌++◌, length, Option, Some, None}
use Rattle.htmd_lexical.specs.Characters.{line_feed}
use Rattle.htmd_nodes.specs.Items.{Item, HoldTexts}
use Rattle.htmd_nodes.specs.NumberedTrees.{NumberedTree, tree_of}
use Rattle.htmd_document.specs.Documents.{Blocks}
use Rattle.htmd_document.specs.FlatDocuments.{flattened}
use Rattle.htmd_flow.specs.Contexts.{bare_in}
use Rattle.htmd_shown.specs.Shown.{Sight, shown_in}
use Rattle.htmd_document_of_tree.specs.declared.anchors.Anchors.{Anchors}
use Rattle.htmd_document_of_tree.specs.TreeDocuments.{document_of_tree}
use Rattle.htmd_document.specs.NormalDocuments.{IsNormal}
use Rattle.htmd_law_documents.specs.DocumentTexts.{text_of_blocks, visible}
use Rattle.htmd_law_documents.specs.SaidTexts.{SayAll}
use Rattle.htmd_law_documents.specs.DocumentWrappers.{wrappers_of_blocks}
use Rattle.htmd_law_documents.specs.TreeWrappers.{wrappers_of_trees}
use Rattle.htmd_law_documents.specs.WrapperLaws.{final_trees}
use Rattle.htmd_law_documents.specs.TreeForms.{is_text_tree}
use Rattle.htmd_commonmark.specs.declared.options.DocumentOptions.{DocumentOptions}
use Rattle.htmd_commonmark.specs.DocumentMarkdown.{markdown_of}
use Rattle.htmd_commonmark_reading.specs.Reading.{document}
use Rattle.htmd_law_blocks.specs.BlockLaws.{definition_lines}
use Rattle.htmd_law_inlines.specs.ReadBack.{AreFew}

-- the document has no more link definitions than fit the memory of any machine
abbrev pub HasFewDefinitions : DocumentOptions → Blocks → Type 0
HasFewDefinitions options d = AreFew (definition_lines options (flattened d))

-- For all options and all normal documents, what is read of what is written is what was written.
abbrev pub ReadsBack : Type 0
ReadsBack = (options : DocumentOptions) (d : Blocks) → IsNormal d → HasFewDefinitions options d
    → document (markdown_of options d) ≡ Some d

-- what is written and a line feed, as in a file
abbrev pub file_of : DocumentOptions → Blocks → List ℕ
file_of options d = markdown_of options d ++ line_feed ∷ []

-- So it is with a line feed at the end.
abbrev pub FilesReadBack : Type 0
FilesReadBack = (options : DocumentOptions) (d : Blocks) → IsNormal d → HasFewDefinitions options d
    → document (file_of options d) ≡ Some d

-- Each definition is a line of the Markdown. So there are few wherever the Markdown fits a text of the machine, as all
-- that is answered does.
abbrev pub DefinitionsAreLines : Type 0
DefinitionsAreLines = (options : DocumentOptions) (d : Blocks)
    → length (definition_lines options (flattened d)) ≤ length (markdown_of options d)

-- What is read of the Markdown of a page is the page's document, with whatever anchors.
abbrev pub PagesReadBack : Type 0
PagesReadBack = (which : Anchors) (sight : Sight) (tree : NumberedTree) (options : DocumentOptions)
    → is_text_tree tree ≡ true
    → HasFewDefinitions options (document_of_tree which sight tree)
    → document (markdown_of options (document_of_tree which sight tree))
    ≡ Some (document_of_tree which sight tree)

-- A document in which each visible character of what shows of the tree stands, in order, and no other, with the
-- formats, the link and the code around it that it has there once links are within their budget, and anchors have come
-- in.
abbrev pub Shows : Anchors → Sight → NumberedTree → Option Blocks → Type 0
Shows which sight tree None = ⊥
Shows which sight tree (Some d) =
    SayAll false false (shown_in sight tree) (visible (text_of_blocks d))
    × (wrappers_of_blocks d ≡ wrappers_of_trees (final_trees which sight tree) (bare_in sight.is_rich) false)

-- In the file with this Markdown and a line feed a reader sees the document of this tree, and in it so each visible
-- character of the tree.
abbrev pub IsSeenIn : Anchors → Sight → List Item → List ℕ → Type 0
IsSeenIn which sight items markdown =
    (document (markdown ++ line_feed ∷ [])
    ≡ Some (document_of_tree which sight (tree_of items 0)))
    × Shows which sight (tree_of items 0) (document (markdown ++ line_feed ∷ []))

-- So is every page seen in the file that is written of it. Its tree is one of the source: its texts are UTF-8, and no
-- two nodes have one number.
abbrev pub PagesAreSeen : Type 0
PagesAreSeen = (which : Anchors) (sight : Sight) (items : List Item) (options : DocumentOptions)
    → HoldTexts items
    → HasFewDefinitions options (document_of_tree which sight (tree_of items 0))
    → IsSeenIn which sight items
    (markdown_of options (document_of_tree which sight (tree_of items 0)))

-- And so it is in all Markdown that is answered, which fits a text of the machine.
abbrev pub AnswersAreSeen : Type 0
AnswersAreSeen = (which : Anchors) (sight : Sight) (items : List Item) (options : DocumentOptions)
    → HoldTexts items
    → length (markdown_of options (document_of_tree which sight (tree_of items 0))) < 2 ^ 64
    → IsSeenIn which sight items
    (markdown_of options (document_of_tree which sight (tree_of items 0)))

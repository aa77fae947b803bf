-- What a reader sees of a page, and by which options that is written.
use Rattle.std.specs.Prelude.{◌≡◌, ℕ, Bool, true, List, []}
use Rattle.htmd_nodes.specs.Items.{Item}
use Rattle.htmd_nodes.specs.NumberedTrees.{tree_of}
use Rattle.htmd_html5.specs.Html5Documents.{html5_document}
use Rattle.htmd_document.specs.Documents.{Blocks}
use Rattle.htmd_commonmark_reading.specs.Reading.{read}
use Rattle.htmd_commonmark_reading.specs.Rendering.{html_of}
use Rattle.htmd_document_of_tree.specs.declared.anchors.Anchors.{Anchors}
use Rattle.htmd_document_of_tree.specs.declared.anchors.Anchors.TheVariants.{All}
use Rattle.htmd_document_of_tree.specs.TreeDocuments.{document_of_tree}
use Rattle.htmd_shown.specs.Shown.{Sight}
use Rattle.htmd_commonmark.specs.declared.options.DocumentOptions.{DocumentOptions}
use Rattle.htmd_walk.specs.declared.options.Options.{Options}
use Rattle.htmd.specs.Conversions.{IsTreeOf}

-- what a reader sees of a tree, but of the tags that are skipped
abbrev pub document_of_items : Bool → List (List ℕ) → Anchors → Bool → List Item → Blocks
document_of_items scripting skipped anchors rich tree =
    let sight : Sight = record { scripting = scripting; skip = skipped; is_rich = rich } in
    document_of_tree anchors sight (tree_of tree 0)

-- what a reader sees of any page, as the HTML Standard reads it
abbrev pub html5_page_document : Bool → List (List ℕ) → Anchors → Bool → List ℕ → Blocks
html5_page_document scripting skipped anchors rich html =
    document_of_items scripting skipped anchors rich (html5_document scripting html)

-- what a reader sees of a text of Markdown: of its HTML, with each place of links and all that rich documents keep
abbrev pub document_of_markdown : List ℕ → Blocks
document_of_markdown text = html5_page_document true [] All true (html_of (read text))

-- the text denotes a tree, and this is what a reader sees of it
abbrev pub IsDocumentOf : Bool → List (List ℕ) → Anchors → Bool → List ℕ → Blocks → Type 0
IsDocumentOf scripting skipped anchors rich html document =
    (tree : List Item) × IsTreeOf scripting html tree
    × (document ≡ document_of_items scripting skipped anchors rich tree)

-- the options that count for a document
abbrev pub document_options : Options → DocumentOptions
document_options options = record {
  heading_style = options.heading_style;
  hr_style = options.hr_style;
  br_style = options.br_style;
  link_style = options.link_style;
  code_block_fence = options.code_block_fence;
  bullet_list_marker = options.bullet_list_marker;
  ul_bullet_spacing = options.ul_bullet_spacing;
  ol_number_spacing = options.ol_number_spacing;
}

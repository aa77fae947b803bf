-- A document comes back from the HTML of its Markdown.
use Rattle.std.specs.Prelude.{◌≡◌, Bool, true, false, ◌&&◌}
use Rattle.htmd_nodes.specs.NumberedTrees.{NumberedTree, tree_of}
use Rattle.htmd_html5.specs.Html5Documents.{html5_document}
use Rattle.htmd_document.specs.Documents.{Blocks}
use Rattle.htmd_document.specs.NormalDocuments.{IsNormal}
use Rattle.htmd_commonmark.specs.declared.options.DocumentOptions.{DocumentOptions}
use Rattle.htmd_commonmark_reading.specs.Rendering.{html_of}
use Rattle.htmd_document_of_tree.specs.declared.anchors.Anchors.{Anchors}
use Rattle.htmd_document_of_tree.specs.TreeDocuments.{document_of_tree}
use Rattle.htmd_law_reading.specs.ReadingLaws.{HasFewDefinitions}
use Rattle.htmd_law_rendering.specs.PlainReadings.{elements_fit}
use Rattle.htmd_law_rendering.specs.DocumentLaws.{reading_of}
use Rattle.htmd_law_returning.specs.EncodedDocuments.{encoded}
use Rattle.htmd_law_returning.specs.SettledDocuments.{are_settled, have_bare_headers}
use Rattle.htmd_law_returning.specs.LastingAnchors.{anchors_stay}
use Rattle.htmd_law_returning.specs.PageFormats.{formats_show}
use Rattle.htmd_law_returning.specs.ReturningLaws.{whole_sight}

-- what the reader of any page makes of the HTML of a document's Markdown
abbrev pub page_back : Bool → DocumentOptions → Blocks → NumberedTree
page_back scripting options d = tree_of (html5_document scripting (html_of (reading_of options d))) 0

-- A normal document with few link definitions, whose elements may stand where they do and aren't too deep in each
-- other, which is settled with its addresses encoded and whose anchors stay, is with these the document of that page,
-- for all options, with scripting or without, rich or not, if such a page shows its formats and elements; on a rich
-- page a table is an element where nothing shows in its header.
abbrev pub SettledComeBack : Type 0
SettledComeBack = (which : Anchors) (scripting is_rich : Bool) (options : DocumentOptions) (d : Blocks)
    → IsNormal d → HasFewDefinitions options d → elements_fit d ≡ true
    → are_settled (encoded d) ≡ true → anchors_stay which (encoded d) ≡ true → formats_show is_rich d ≡ true
    → (is_rich && have_bare_headers d) ≡ false
    → document_of_tree which (whole_sight scripting is_rich) (page_back scripting options d) ≡ encoded d

-- The document of a page comes back, so that converting its Markdown again changes nothing.
use Rattle.std.specs.Prelude.{◌≡◌, ◌<◌, ◌^◌, ℕ, Bool, true, false, not, ◌&&◌, ◌||◌, List}
use Rattle.std.specs.Prelude.{length}
use Rattle.htmd_nodes.specs.NumberedTrees.{NumberedTree, tree_of}
use Rattle.htmd_nodes.specs.Layout.{document_items}
use Rattle.htmd_html5.specs.Html5Documents.{html5_document}
use Rattle.htmd_grammar.specs.HtmlDocuments.{skeleton}
use Rattle.htmd_document.specs.Documents.{Blocks}
use Rattle.htmd_shown.specs.Shown.{Sight}
use Rattle.htmd_document_of_tree.specs.declared.anchors.Anchors.{Anchors}
use Rattle.htmd_document_of_tree.specs.TreeDocuments.{document_of_tree}
use Rattle.htmd_commonmark.specs.declared.options.DocumentOptions.{DocumentOptions}
use Rattle.htmd_commonmark.specs.DocumentMarkdown.{markdown_of}
use Rattle.htmd_commonmark_reading.specs.Reading.{read}
use Rattle.htmd_commonmark_reading.specs.Rendering.{html_of}
use Rattle.htmd_law_documents.specs.TreeForms.{is_text_tree}
use Rattle.htmd_law_reading.specs.ReadingLaws.{file_of}
use Rattle.htmd_law_rendering.specs.DocumentLaws.{reading_of}
use Rattle.htmd_law_rendering.specs.RenderedTrees.{trees_of}
use Rattle.htmd_law_returning.specs.EncodedDocuments.{encoded}
use Rattle.htmd_law_returning.specs.SettledDocuments.{are_settled, have_bare_headers}
use Rattle.htmd_law_returning.specs.ReturningLaws.{whole_sight}
use Rattle.htmd_law_returning.specs.ComingBack.{page_back}
use Rattle.htmd_law_settled.specs.CommonDocuments.{is_common, keeps_by, is_shallow}

-- The HTML of the Markdown of the document of every tree of texts, rich or not, with whatever anchors, is read by the
-- reader of any page as the trees that it is spelled of, if the Markdown fits a text of the machine; of a rich one, if
-- elements, quotes and lists are only so deep in each other.
abbrev pub PagesAreParsed : Type 0
PagesAreParsed = (which : Anchors) (sight : Sight) (tree : NumberedTree) (options : DocumentOptions)
    → is_text_tree tree ≡ true → (not sight.is_rich || is_shallow (document_of_tree which sight tree)) ≡ true
    → length (markdown_of options (document_of_tree which sight tree)) < 2 ^ 64
    → (scripting : Bool) → html5_document scripting
    (html_of (reading_of options (document_of_tree which sight tree)))
    ≡ document_items (skeleton (trees_of (reading_of options (document_of_tree which sight tree))))

-- The document of every tree of texts, rich or not, with whatever anchors, is settled with its addresses encoded, if it
-- is common.
abbrev pub DocumentsAreSettled : Type 0
DocumentsAreSettled = (which : Anchors) (sight : Sight) (tree : NumberedTree)
    → is_text_tree tree ≡ true → is_common which (encoded (document_of_tree which sight tree)) ≡ true
    → are_settled (encoded (document_of_tree which sight tree)) ≡ true

-- the document of the page that the HTML of a document's Markdown is
abbrev pub document_back : Anchors → Bool → Bool → DocumentOptions → Blocks → Blocks
document_back which scripting is_rich options d =
    document_of_tree which (whole_sight scripting is_rich) (page_back scripting options d)

-- the page is rich if the first one was: so it shows all that the first one did
abbrev pub ShowsAll : Bool → Bool → Type 0
ShowsAll was_rich is_rich = (was_rich && not is_rich) ≡ false

-- on a rich page a table is an element where nothing shows in its header; in the document of a rich page no table is
-- like that
abbrev pub ShowHeaders : Bool → Bool → Blocks → Type 0
ShowHeaders was_rich is_rich d = (not was_rich && is_rich && have_bare_headers d) ≡ false

-- with the same choice of anchors, or another that keeps them, with scripting or without, it is the document with its
-- addresses encoded, on a rich page if it was rich, else rich or not
abbrev pub ComesBack : Anchors → Bool → DocumentOptions → Blocks → Type 0
ComesBack own was_rich options d = (which : Anchors) (scripting is_rich : Bool)
    → keeps_by own which (encoded d) ≡ true → ShowsAll was_rich is_rich
    → ShowHeaders was_rich is_rich d
    → document_back which scripting is_rich options d ≡ encoded d

-- So it comes back, for all options with which its Markdown fits a text of the machine.
abbrev pub PagesComeBack : Type 0
PagesComeBack = (which : Anchors) (sight : Sight) (tree : NumberedTree) (options : DocumentOptions)
    → is_text_tree tree ≡ true
    → is_common which (encoded (document_of_tree which sight tree)) ≡ true
    → length (markdown_of options (document_of_tree which sight tree)) < 2 ^ 64
    → ComesBack which sight.is_rich options (document_of_tree which sight tree)

-- the Markdown of that page is the same bytes, with each address encoded
abbrev pub IsStable : Anchors → Bool → DocumentOptions → Blocks → Type 0
IsStable own was_rich options d = (which : Anchors) (scripting is_rich : Bool)
    → keeps_by own which (encoded d) ≡ true → ShowsAll was_rich is_rich
    → ShowHeaders was_rich is_rich d
    → markdown_of options (document_back which scripting is_rich options d) ≡ markdown_of options (encoded d)

-- So does its Markdown.
abbrev pub ConversionIsStable : Type 0
ConversionIsStable = (which : Anchors) (sight : Sight) (tree : NumberedTree) (options : DocumentOptions)
    → is_text_tree tree ≡ true
    → is_common which (encoded (document_of_tree which sight tree)) ≡ true
    → length (markdown_of options (document_of_tree which sight tree)) < 2 ^ 64
    → IsStable which sight.is_rich options (document_of_tree which sight tree)

-- Once addresses are encoded, they stay.
abbrev pub AddressesStay : Type 0
AddressesStay = (which : Anchors) (sight : Sight) (tree : NumberedTree) → is_text_tree tree ≡ true
    → encoded (encoded (document_of_tree which sight tree)) ≡ encoded (document_of_tree which sight tree)

-- So from then on all comes back as it is.
abbrev pub ComesBackAgain : Type 0
ComesBackAgain = (which : Anchors) (sight : Sight) (tree : NumberedTree) (options : DocumentOptions)
    → is_text_tree tree ≡ true
    → is_common which (encoded (document_of_tree which sight tree)) ≡ true
    → length (markdown_of options (encoded (document_of_tree which sight tree))) < 2 ^ 64
    → (again : Anchors) (scripting is_rich : Bool)
    → keeps_by which again (encoded (document_of_tree which sight tree)) ≡ true → ShowsAll sight.is_rich is_rich
    → ShowHeaders sight.is_rich is_rich (document_of_tree which sight tree)
    → document_back again scripting is_rich options (encoded (document_of_tree which sight tree))
    ≡ encoded (document_of_tree which sight tree)

-- ---- files

-- what the reader of any page makes of the HTML of a file, which ends in a line feed
abbrev pub page_of_file : Bool → DocumentOptions → Blocks → NumberedTree
page_of_file scripting options d = tree_of (html5_document scripting (html_of (read (file_of options d)))) 0

abbrev pub file_back : Anchors → Bool → Bool → DocumentOptions → Blocks → List ℕ
file_back which scripting is_rich options d =
    file_of options (document_of_tree which (whole_sight scripting is_rich) (page_of_file scripting options d))

-- the file of that page is the same bytes, with each address encoded
abbrev pub IsStableFile : Anchors → Bool → DocumentOptions → Blocks → Type 0
IsStableFile own was_rich options d = (which : Anchors) (scripting is_rich : Bool)
    → keeps_by own which (encoded d) ≡ true → ShowsAll was_rich is_rich
    → ShowHeaders was_rich is_rich d
    → file_back which scripting is_rich options d ≡ file_of options (encoded d)

-- And so does the file.
abbrev pub FilesAreStable : Type 0
FilesAreStable = (which : Anchors) (sight : Sight) (tree : NumberedTree) (options : DocumentOptions)
    → is_text_tree tree ≡ true
    → is_common which (encoded (document_of_tree which sight tree)) ≡ true
    → length (markdown_of options (document_of_tree which sight tree)) < 2 ^ 64
    → IsStableFile which sight.is_rich options (document_of_tree which sight tree)

-- The HTML of the Markdown of documents in normal form.
use Rattle.std.specs.Prelude.{◌≡◌, Bool, true}
use Rattle.htmd_document.specs.Documents.{Blocks}
use Rattle.htmd_document.specs.NormalDocuments.{IsNormal}
use Rattle.htmd_grammar.specs.HtmlDocuments.{skeleton}
use Rattle.htmd_nodes.specs.Layout.{document_items}
use Rattle.htmd_html5.specs.Html5Documents.{html5_document}
use Rattle.htmd_commonmark.specs.declared.options.DocumentOptions.{DocumentOptions}
use Rattle.htmd_commonmark.specs.DocumentMarkdown.{markdown_of}
use Rattle.htmd_commonmark_reading.specs.Markup as markup
use Rattle.htmd_commonmark_reading.specs.Reading.{read}
use Rattle.htmd_commonmark_reading.specs.Rendering.{html_of}
use Rattle.htmd_law_reading.specs.ReadingLaws.{HasFewDefinitions}
use Rattle.htmd_law_rendering.specs.SpelledTrees.{all_spelled}
use Rattle.htmd_law_rendering.specs.RenderedTrees.{spelled_of, trees_of}
use Rattle.htmd_law_rendering.specs.PlainReadings.{elements_fit}

-- what is read of the Markdown of a document
abbrev pub reading_of : DocumentOptions → Blocks → markup.Blocks
reading_of options d = read (markdown_of options d)

-- Its HTML is the spelling of its trees.
abbrev pub DocumentsAreSpelled : Type 0
DocumentsAreSpelled = (options : DocumentOptions) (d : Blocks) → IsNormal d → HasFewDefinitions options d
    → html_of (reading_of options d) ≡ all_spelled (spelled_of (reading_of options d))

-- And if its elements may stand where they do, the reader of any page makes the document of these trees of it.
abbrev pub DocumentsAreParsed : Type 0
DocumentsAreParsed = (scripting : Bool) (options : DocumentOptions) (d : Blocks) → IsNormal d
    → HasFewDefinitions options d → elements_fit d ≡ true
    → html5_document scripting (html_of (reading_of options d))
    ≡ document_items (skeleton (trees_of (reading_of options d)))

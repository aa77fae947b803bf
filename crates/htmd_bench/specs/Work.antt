-- How large the answers to an input are.
use Rattle.std.specs.Prelude.{◌≡◌, ℕ, List, [], false, true, length}
use Rattle.htmd_text.specs.EscapedPlaces.{escaped_markdown}
use Rattle.htmd_text.specs.SqueezedTexts.{squeezed_text}
use Rattle.htmd_nodes.specs.Items.{Item, children_of}
use Rattle.htmd.specs.BuiltIn.{built_in}
use Rattle.htmd.specs.Conversions.{IsTreeOf, IsMarkdownOf}
use Rattle.htmd.specs.Defaults.{default_options}
use Rattle.htmd.specs.DocumentAnchors.TheVariants.{Linked}
use Rattle.htmd.specs.Documents.{Blocks}
use Rattle.htmd.specs.DocumentMarkdown.{markdown_of}
use Rattle.htmd.specs.PageDocuments.{IsDocumentOf, document_options}
use Rattle.htmd_html5.specs.Html5Documents.{html5_document}
use Rattle.htmd_bench.specs.declared.work.Work.{Work}
use Rattle.htmd_bench.specs.declared.work.Work.TheVariants.{Copy, Escape, Squeeze, Read, ReadAny, Walk, Document}
use Rattle.htmd_bench.specs.declared.work.Work.TheVariants.{Convert}

-- the Markdown of the page has this length
abbrev pub HasMarkdownLength : List ℕ → ℕ → Type 0
HasMarkdownLength page len =
    (text : List ℕ) × IsMarkdownOf (built_in default_options) true page text × (len ≡ length text)

-- what a reader sees of the page has this length, as Markdown
abbrev pub HasDocumentLength : List ℕ → ℕ → Type 0
HasDocumentLength page len =
    (document : Blocks) × IsDocumentOf true [] Linked false page document
    × (len ≡ length (markdown_of (document_options default_options) document))

-- this is the length of the answer: in bytes, and of a tree how many nodes stand right under the Document
abbrev pub HasLength : Work → List ℕ → ℕ → Type 0
HasLength Copy s len = len ≡ length s
HasLength Escape s len = len ≡ length (escaped_markdown s)
HasLength Squeeze s len = len ≡ length (squeezed_text s)
HasLength Read s len = (tree : List Item) × IsTreeOf true s tree × (len ≡ length (children_of tree 0))
HasLength ReadAny s len = len ≡ length (children_of (html5_document true s) 0)
HasLength Walk s len = HasMarkdownLength s len
HasLength Document s len = HasDocumentLength s len
HasLength Convert s len = HasMarkdownLength s len

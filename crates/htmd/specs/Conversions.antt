-- What a text of HTML becomes.
use Rattle.std.specs.Prelude.{◌≡◌, ℕ, ◌+◌, Bool, List}
use Rattle.htmd_values.specs.ValueTrees.{ValueTree, ValueForest, document}
use Rattle.htmd_grammar.specs.HtmlDocuments.{ReadsDocument}
use Rattle.htmd_grammar.specs.Rules.{project}
use Rattle.htmd_grammar.specs.Faults.{IsFault}
use Rattle.htmd_grammar.specs.declared.fault.FaultKind.{FaultKind}
use Rattle.htmd_nodes.specs.Items.{Item, IsTree, HoldTexts}
use Rattle.htmd_html5.specs.Html5Documents.{html5_document}
use Rattle.htmd_tree.specs.Bodies.{body_part, body_place}
use Rattle.htmd_nodes.specs.Layout.{document_items}
use Rattle.htmd_tree.specs.declared.reader.ReadError.{ReadError}
use Rattle.htmd_tree.specs.declared.reader.ReadError.TheVariants as read
use Rattle.htmd.specs.declared.convert_error.ConvertError.{ConvertError}
use Rattle.htmd.specs.declared.convert_error.ConvertError.TheVariants as convert
use Rattle.htmd_walk.specs.Choice.{Config}
use Rattle.htmd_walk.specs.Markdown.{markdown}

-- the text denotes a document that is laid out as this tree; the flag says whether scripting is on
abbrev pub IsTreeOf : Bool → List ℕ → List Item → Type 0
IsTreeOf scripting html tree =
    (children : ValueForest) × (tree ≡ document_items children)
    × ReadsDocument (project scripting) html (document children)

-- the text denotes no document
abbrev pub DenotesNothing : Bool → List ℕ → Type 0
DenotesNothing scripting html = (t : ValueTree) → ReadsDocument (project scripting) html t → ⊥

-- the text denotes no document, and this place and kind are right for its first fault
pub record IsRefused (scripting : Bool) (html : List ℕ) (place : ℕ) (kind : FaultKind) : Type 0 where
  pub denotes_nothing : DenotesNothing scripting html
  pub is_fault : IsFault (project scripting) html place kind

-- this is the Markdown of the document that the text denotes
abbrev pub IsMarkdownOf : Config → Bool → List ℕ → List ℕ → Type 0
IsMarkdownOf config scripting html text =
    (tree : List Item) × IsTreeOf scripting html tree × (text ≡ markdown config tree 0)

-- why a text was not read is why it was not converted
abbrev pub conversion_error : ReadError → ConvertError
conversion_error (read.Refused place kind) = convert.Refused place kind
conversion_error read.Memory = convert.Memory

-- this is the Markdown of what is between the tags of the page's body
abbrev pub IsMarkdownOfPage : Config → Bool → List ℕ → List ℕ → Type 0
IsMarkdownOfPage config scripting page text = IsMarkdownOf config scripting (body_part page) text

-- what is between the tags of the page's body denotes no document, and is refused at this place of the page
abbrev pub IsPageRefused : Bool → List ℕ → ℕ → FaultKind → Type 0
IsPageRefused scripting page place kind =
    (within : ℕ) × (place ≡ body_place page + within) × IsRefused scripting (body_part page) within kind

-- the Markdown of any page, as the HTML Standard reads it
abbrev pub html5_markdown : Config → Bool → List ℕ → List ℕ
html5_markdown config scripting html = markdown config (html5_document scripting html) 0

-- what the page is read as is a tree, its texts and values are UTF-8, and this is its Markdown
pub record IsHtml5Markdown (config : Config) (scripting : Bool) (html : List ℕ) (text : List ℕ) : Type 0 where
  pub is_tree : IsTree (html5_document scripting html)
  pub holds_texts : HoldTexts (html5_document scripting html)
  pub is_markdown : text ≡ html5_markdown config scripting html

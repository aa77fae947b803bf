-- What the bytes of an input become by settings, and why they become nothing.
use Rattle.std.specs.Prelude.{◌≡◌, ◌&&◌, ℕ, Bool, false, not, if◌then◌else◌, MatchBool, ⊤, List, [], ◌∷◌}
use Rattle.std.specs.Prelude.{◌++◌, length, take, codes, Option, Some, None, IsUtf8}
use Rattle.htmd_nodes.specs.Items.{IsTree, HoldTexts}
use Rattle.htmd_nodes.specs.NumberedTrees.{value_at}
use Rattle.htmd_article.specs.Articles.{article_of, article_page}
use Rattle.htmd_article.specs.declared.choices.Chosen.{Chosen}
use Rattle.htmd_lexical.specs.ByteOrderMarks.{behind_mark}
use Rattle.htmd_lexical.specs.Characters.{line_feed}
use Rattle.htmd_grammar.specs.declared.fault.FaultKind.{FaultKind}
use Rattle.htmd_nodes.specs.Items.{Item, document_item, new_item, element_node, text_node}
use Rattle.htmd_walk.specs.Choice.{Config, no_handler, with_handler, with_options}
use Rattle.htmd_walk.specs.Defaults.{default_options}
use Rattle.htmd_walk.specs.BuiltIn.{built_in}
use Rattle.htmd_walk.specs.Markdown.{markdown}
use Rattle.htmd.specs.Conversions.{IsRefused, IsPageRefused, IsTreeOf}
use Rattle.htmd_tree.specs.Bodies.{body_part}
use Rattle.htmd.specs.PageDocuments.{document_of_items, document_options}
use Rattle.htmd_document.specs.Documents.{Blocks}
use Rattle.htmd_document.specs.Mdast.{mdast_of, mdast_with_front_matter}
use Rattle.htmd_commonmark.specs.DocumentMarkdown.{markdown_of}
use Rattle.htmd_chunks.specs.Pieces.{chunks_of}
use Rattle.htmd_chunks.specs.ChunkLines.{json_lines}
use Rattle.htmd.specs.Converters.{anchors_of, handlers_of, rich_of, scripting_of, skipped_of}
use Rattle.htmd.specs.declared.converter.HtmlToMarkdown.{HtmlToMarkdown}
use Rattle.htmd_encodings.specs.Decoding.{page_text}
use Rattle.htmd_html5.specs.Html5Documents.{html5_document}
use Rattle.htmd.specs.declared.page_error.PageError.{PageError}
use Rattle.htmd.specs.declared.page_error.PageError.TheVariants.{NotUtf8, Refused, NothingSelected, Memory}
use Rattle.htmd.specs.PageSettings.{Settings, is_any_page, is_markdown, writes_html}
use Rattle.htmd.specs.PageChanges.{head_of, part_of, visible_part}
use Rattle.htmd_commonmark_reading.specs.Reading.{read}
use Rattle.htmd_commonmark_reading.specs.Rendering.{html_of}

-- the Document, and under it a `p`
abbrev pub empty_paragraph : List Item
empty_paragraph = document_item ∷ new_item (document_item ∷ []) 0 (element_node (codes "p") []) ∷ []

-- the tree of one paragraph: a `p` under the Document, and in it the text, unless that is empty
abbrev pub paragraph : List ℕ → List Item
paragraph [] = empty_paragraph
paragraph (b ∷ s) = empty_paragraph ++ new_item empty_paragraph 1 (text_node (b ∷ s)) ∷ []

-- the handlers, but elements with these names give nothing
abbrev pub skipping : List (List ℕ) → Config → Config
skipping [] config = config
skipping (name ∷ names) config = with_handler config (name ∷ names) no_handler

-- the built-in handlers by the options, and what is skipped
abbrev pub config_of : Settings → Config
config_of settings = skipping settings.skipped (with_options (built_in default_options) settings.options)

-- the Markdown of a text that is one paragraph
unfoldable pub paragraph_markdown : Config → List ℕ → List ℕ
paragraph_markdown config text = markdown config (paragraph text) 0

-- the Markdown of one paragraph by the built-in handlers, and a line feed
abbrev pub paragraph_output : Config → List ℕ → List ℕ
paragraph_output config text = paragraph_markdown config text ++ line_feed ∷ []

-- the bytes of an input are read as browsers read them, in any encoding
abbrev pub reads_any : Settings → Bool
reads_any settings = not settings.from_markdown && settings.html5 && not settings.text

-- the HTML of a text of Markdown, without a byte order mark at its beginning
unfoldable pub html_of_markdown : List ℕ → List ℕ
html_of_markdown text = html_of (read (behind_mark text))

-- the bytes hold a text: in their encoding, whatever they are, if all are read, else only in UTF-8
abbrev pub IsReadable : Settings → List ℕ → Type 0
IsReadable settings bytes = MatchBool (reads_any settings) ⊤ (IsUtf8 bytes)

-- the text of the page that they hold: the HTML of Markdown
abbrev pub text_in : Settings → List ℕ → List ℕ
text_in settings bytes =
    if reads_any settings then page_text settings.encoding bytes
    else if is_markdown settings then html_of_markdown bytes else bytes

-- what a reader sees of a tree
abbrev pub document_in : Settings → List Item → Blocks
document_in settings tree =
    document_of_items settings.scripting settings.skipped settings.anchors settings.rich tree

-- what of an input the strict reader reads
abbrev pub strict_part : Settings → List ℕ → List ℕ
strict_part settings input = if settings.body then body_part input else input

-- this is the tree of any page as browsers read it, and its texts and values are UTF-8
pub record IsHtml5Tree (scripting : Bool) (html : List ℕ) (page : List Item) : Type 0 where
  pub is_document : page ≡ html5_document scripting html
  pub is_tree : IsTree page
  pub holds_texts : HoldTexts page

-- this is the tree of an input: of one paragraph where it is taken for a text, else of any page as browsers read it, of
-- a page's body or of all
abbrev pub IsTreeBy : Settings → List ℕ → List Item → Type 0
IsTreeBy settings input page =
    MatchBool settings.text (page ≡ paragraph input)
    (MatchBool (is_any_page settings) (IsHtml5Tree settings.scripting input page)
    (IsTreeOf settings.scripting (strict_part settings input) page))

-- the main content of the page that an input is, without what it hides if that isn't converted, and the rule by which
-- it was chosen
abbrev pub IsMainContent : Settings → List ℕ → Chosen → List Item → Type 0
IsMainContent settings input chosen content =
    (page : List Item) × IsTreeBy settings input page
    × (chosen ≡ (article_of (value_at (visible_part settings page) 0)).chosen)
    × (content ≡ article_page (visible_part settings page))

-- Markdown after what the head of its page says, which stands between two lines `---`, if it says anything
abbrev pub after_head : List ℕ → List ℕ → List ℕ
after_head [] markdown = markdown
after_head (b ∷ s) markdown = codes "---\n" ++ (b ∷ s) ++ codes "---\n\n" ++ markdown

-- the JSON of a document after what the head of its page says, without the last line feed of that
abbrev pub mdast_after : List ℕ → Blocks → List ℕ
mdast_after [] document = mdast_of document
mdast_after (b ∷ s) document = mdast_with_front_matter (take (length s) (b ∷ s)) document

-- the Markdown of a tree: of what a reader sees of it, or by the handlers
unfoldable pub tree_markdown : Settings → List Item → List ℕ
tree_markdown settings tree =
    if settings.guarded then markdown_of (document_options settings.options) (document_in settings tree)
    else markdown (config_of settings) tree 0

-- what is written of a tree in one text, after what the head of its page says
abbrev pub whole_output : Settings → List ℕ → List Item → List ℕ
whole_output settings head tree =
    if settings.mdast then mdast_after head (document_in settings tree)
    else after_head head (tree_markdown settings tree)

-- what the head of a page says, if that is written
abbrev pub front_in : List ℕ → Option (List ℕ)
front_in [] = None
front_in (b ∷ s) = Some (b ∷ s)

-- what a reader sees of a tree in pieces of at most so many bytes, as lines of JSON, with the page's name and its head
unfoldable pub pieces_output : Settings → ℕ → List ℕ → List Item → List ℕ
pieces_output settings most head tree =
    json_lines (document_options settings.options) settings.name (front_in head)
    (chunks_of (document_options settings.options) most (document_in settings tree))

-- in pieces, if their greatest size is given, whatever else is
abbrev pub output_in : Option ℕ → Settings → List ℕ → List Item → List ℕ
output_in None settings head tree = whole_output settings head tree
output_in (Some most) settings head tree = pieces_output settings most head tree

-- what is written of a tree, with what the head of its page says
unfoldable pub tree_output : Settings → List ℕ → List Item → List ℕ
tree_output settings head tree = output_in settings.chunks settings head tree

-- this is what an input becomes: what is written of the part of its tree that is converted, with what its head says
abbrev pub IsOutputBy : Settings → List ℕ → List ℕ → Type 0
IsOutputBy settings input output =
    (page : List Item) × IsTreeBy settings input page
    × (part : List Item) × (part_of settings page ≡ Some part)
    × (output ≡ tree_output settings (head_of settings page) part)

-- no element of the input is selected
abbrev pub SelectsNothing : Settings → List ℕ → Type 0
SelectsNothing settings input =
    (page : List Item) × IsTreeBy settings input page × (part_of settings page ≡ None)

-- the input, or its body, is outside the grammar, and this place of the input and this kind are right
abbrev pub IsRefusedBy : Settings → List ℕ → ℕ → FaultKind → Type 0
IsRefusedBy settings input place kind =
    MatchBool settings.body (IsPageRefused settings.scripting input place kind)
    (IsRefused settings.scripting input place kind)

-- ---- the bytes of an input

-- the bytes hold a text, and this is what it becomes
abbrev pub IsOutputOf : Settings → List ℕ → List ℕ → Type 0
IsOutputOf settings bytes output =
    IsReadable settings bytes
    × MatchBool (writes_html settings) (output ≡ text_in settings bytes)
    (IsOutputBy settings (text_in settings bytes) output)

-- the bytes hold the text of a page, of which no element is selected
abbrev pub IsUnselected : Settings → List ℕ → Type 0
IsUnselected settings bytes = IsReadable settings bytes × SelectsNothing settings (text_in settings bytes)

-- Why the bytes of an input become nothing, case by case.
abbrev pub IsFaultOf : Settings → List ℕ → PageError → Type 0
-- they are not UTF-8, which any page may be
IsFaultOf settings bytes NotUtf8 = (reads_any settings ≡ false) × (¬ IsUtf8 bytes)
-- they are UTF-8, were taken for HTML of the strict grammar, and are outside it
IsFaultOf settings bytes (Refused place kind) =
    (settings.text ≡ false) × (settings.html5 ≡ false) × IsUtf8 bytes × IsRefusedBy settings bytes place kind
IsFaultOf settings bytes NothingSelected = IsUnselected settings bytes
-- out of memory, which no input is the reason for
IsFaultOf settings bytes Memory = ⊤

-- the converter is ready, and goes by the settings
abbrev pub GoesBy : {H : Type 0} → (H → Type 0) → (H → Config) → HtmlToMarkdown H → Settings → Type 0
GoesBy ready config converter settings =
    ready (handlers_of converter) × (config (handlers_of converter) ≡ config_of settings)
    × (scripting_of converter ≡ settings.scripting) × (skipped_of converter ≡ settings.skipped)
    × (anchors_of converter ≡ settings.anchors) × (rich_of converter ≡ settings.rich)

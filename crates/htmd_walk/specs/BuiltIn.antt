-- The built-in handlers and their tags.
use Rattle.std.specs.Prelude.{ℕ, List, [], ◌∷◌, codes, map}
use Rattle.std.specs.Borrow.{Bor}
use Rattle.htmd_nodes.specs.declared.tag.Tag.{Tag}
use Rattle.htmd_nodes.specs.Tags.{tag_text}
use Rattle.htmd_walk.specs.declared.options.Options.{Options}
use Rattle.htmd_walk.specs.declared.element_handler.built_in.BuiltIn.{BuiltIn}
use Rattle.htmd_walk.specs.declared.element_handler.built_in.BuiltIn.TheVariants.{ListElement, ListItem}
use Rattle.htmd_walk.specs.declared.element_handler.built_in.BuiltIn.TheVariants.{BlockQuote, Strong, Emphasis, Heading}
use Rattle.htmd_walk.specs.declared.element_handler.built_in.BuiltIn.TheVariants.{LineBreak, ThematicBreak, Paragraph}
use Rattle.htmd_walk.specs.declared.element_handler.built_in.BuiltIn.TheVariants.{Code, Preformatted, Image, Anchor}
use Rattle.htmd_walk.specs.declared.element_handler.built_in.BuiltIn.TheVariants.{Table, TableCell, TableRow, TablePart}
use Rattle.htmd_walk.specs.declared.element_handler.built_in.BuiltIn.TheVariants.{PagePart}
use Rattle.htmd_walk.specs.declared.element_handler.built_in.BuiltIn.TheVariants.{Page, Span, OtherBlock}
use Rattle.htmd_walk.specs.Handling.{HandlerMeaning}
use Rattle.htmd_walk.specs.Choice.{Config, with_handler}
use Rattle.htmd_markdown.specs.declared.emphasis.Emphasis.TheVariants as kind
use Rattle.htmd_walk.specs.BlockQuotes.{quotes}
use Rattle.htmd_walk.specs.Paragraphs.{paragraphs}
use Rattle.htmd_walk.specs.Pages.{parts_of_page, pages}
use Rattle.htmd_walk.specs.OtherBlocks.{other_blocks}
use Rattle.htmd_walk.specs.Headings.{headings}
use Rattle.htmd_walk.specs.Emphases.{emphasis_of}
use Rattle.htmd_walk.specs.LineBreaks.{line_breaks}
use Rattle.htmd_walk.specs.ThematicBreaks.{thematic_breaks}
use Rattle.htmd_walk.specs.Spans.{spans}
use Rattle.htmd_walk.specs.Code.{code}
use Rattle.htmd_walk.specs.Preformatted.{preformatted_texts}
use Rattle.htmd_walk.specs.Lists.{lists}
use Rattle.htmd_walk.specs.ListItems.{list_items}
use Rattle.htmd_walk.specs.TableElements.{tables}
use Rattle.htmd_walk.specs.TableCells.{cells}
use Rattle.htmd_walk.specs.TableParts.{table_rows, table_parts}
use Rattle.htmd_walk.specs.Images.{images}
use Rattle.htmd_walk.specs.Anchors.{anchors}

-- a handler, and the tags that it is registered for
pub record Row : Type 0 where
  pub tags : List (List ℕ)
  pub handler : HandlerMeaning

abbrev pub row : List (List ℕ) → HandlerMeaning → Row
row tags handler = record { tags = tags; handler = handler }

abbrev pub heading_tags : List (List ℕ)
heading_tags = codes "h1" ∷ codes "h2" ∷ codes "h3" ∷ codes "h4" ∷ codes "h5" ∷ codes "h6" ∷ []

-- the 43 names of block elements that have no other handler
abbrev pub other_block_tags : List (List ℕ)
other_block_tags =
    codes "address" ∷ codes "article" ∷ codes "aside" ∷ codes "base" ∷ codes "basefont" ∷ codes "center" ∷
    codes "col" ∷ codes "colgroup" ∷ codes "dd" ∷ codes "details" ∷ codes "dialog" ∷ codes "dir" ∷
    codes "div" ∷ codes "dl" ∷ codes "dt" ∷ codes "fieldset" ∷ codes "figcaption" ∷ codes "figure" ∷
    codes "footer" ∷ codes "form" ∷ codes "frame" ∷ codes "frameset" ∷ codes "header" ∷ codes "iframe" ∷
    codes "legend" ∷ codes "link" ∷ codes "main" ∷ codes "menu" ∷ codes "menuitem" ∷ codes "nav" ∷
    codes "noframes" ∷ codes "optgroup" ∷ codes "option" ∷ codes "param" ∷ codes "script" ∷ codes "search" ∷
    codes "section" ∷ codes "style" ∷ codes "summary" ∷ codes "textarea" ∷ codes "tfoot" ∷ codes "title" ∷
    codes "track" ∷ []

-- the built-in handlers in order of registration
abbrev pub built_in_rows : List Row
built_in_rows =
    row (codes "img" ∷ []) images
    ∷ row (codes "a" ∷ []) anchors
    ∷ row (codes "ol" ∷ codes "ul" ∷ []) lists
    ∷ row (codes "li" ∷ []) list_items
    ∷ row (codes "blockquote" ∷ []) quotes
    ∷ row (codes "code" ∷ []) code
    ∷ row (codes "strong" ∷ codes "b" ∷ []) (emphasis_of kind.Strong)
    ∷ row (codes "i" ∷ codes "em" ∷ []) (emphasis_of kind.Regular)
    ∷ row heading_tags headings
    ∷ row (codes "br" ∷ []) line_breaks
    ∷ row (codes "hr" ∷ []) thematic_breaks
    ∷ row (codes "table" ∷ []) tables
    ∷ row (codes "td" ∷ codes "th" ∷ []) cells
    ∷ row (codes "tr" ∷ []) table_rows
    ∷ row (codes "tbody" ∷ []) table_parts
    ∷ row (codes "thead" ∷ []) table_parts
    ∷ row (codes "caption" ∷ []) table_parts
    ∷ row (codes "p" ∷ []) paragraphs
    ∷ row (codes "pre" ∷ []) preformatted_texts
    ∷ row (codes "head" ∷ codes "body" ∷ []) parts_of_page
    ∷ row (codes "html" ∷ []) pages
    ∷ row (codes "span" ∷ []) spans
    ∷ row other_block_tags other_blocks
    ∷ []

abbrev pub with_rows : List Row → Config → Config
with_rows [] config = config
with_rows (r ∷ rs) config = with_rows rs (with_handler config r.tags r.handler)

-- no handler
abbrev pub empty_config : Options → Config
empty_config options = record { options = options; handlers = []; registered = [] }

-- the registry that has only the built-in handlers
abbrev pub built_in : Options → Config
built_in options = with_rows built_in_rows (empty_config options)

-- what a built-in handler means
abbrev pub meaning_of : BuiltIn → HandlerMeaning
meaning_of Image = images
meaning_of Anchor = anchors
meaning_of ListElement = lists
meaning_of ListItem = list_items
meaning_of BlockQuote = quotes
meaning_of Code = code
meaning_of Strong = emphasis_of kind.Strong
meaning_of Emphasis = emphasis_of kind.Regular
meaning_of Heading = headings
meaning_of LineBreak = line_breaks
meaning_of ThematicBreak = thematic_breaks
meaning_of Table = tables
meaning_of TableCell = cells
meaning_of TableRow = table_rows
meaning_of TablePart = table_parts
meaning_of Paragraph = paragraphs
meaning_of Preformatted = preformatted_texts
meaning_of PagePart = parts_of_page
meaning_of Page = pages
meaning_of Span = spans
meaning_of OtherBlock = other_blocks

-- a handler and its tags, as the source has them
abbrev pub row_of : BuiltIn × Bor (List Tag) → Row
row_of r = row (map tag_text r.1.now) (meaning_of r.0)

-- Formats and elements that a page shows.
use Rattle.std.specs.Prelude.{Bool, true, ◌&&◌}
use Rattle.std.specs.List.{list_all}
use Rattle.htmd_document.specs.Formats.{Format, Emphasis, Strong, Deleted, Superscript, Subscript, Abbreviation}
use Rattle.htmd_document.specs.Documents.{Inline, formatted, link, Inlines, no_inlines, inline, Block, paragraph}
use Rattle.htmd_document.specs.Documents.{heading, quote, list, table, element, Blocks, no_blocks, block, Items}
use Rattle.htmd_document.specs.Documents.{no_items, item}
use Rattle.htmd_law_returning.specs.SettledDocuments.{is_one_line}

-- A rich page has all, an abbreviation with its title in one line; others have those that Markdown has marks for, and
-- what is above or below the line.
abbrev pub format_shows : Bool → Format → Bool
format_shows is_rich Emphasis = true
format_shows is_rich Strong = true
format_shows is_rich Deleted = true
format_shows is_rich Superscript = true
format_shows is_rich Subscript = true
format_shows is_rich (Abbreviation title) = is_rich && is_one_line title
format_shows is_rich f = is_rich

module _ (is_rich : Bool) where
  abbrev mutual
    pub inline_shows : Inline → Bool
    inline_shows (formatted f content) = format_shows is_rich f && line_shows content
    inline_shows (link address title content) = line_shows content
    inline_shows x = true

    pub line_shows : Inlines → Bool
    line_shows no_inlines = true
    line_shows (inline x rest) = inline_shows x && line_shows rest

  abbrev mutual
    pub block_shows : Block → Bool
    block_shows (paragraph content) = line_shows content
    block_shows (heading level content) = line_shows content
    block_shows (quote content) = formats_show content
    block_shows (list start is_tight items) = items_show items
    block_shows (table alignments header rows) = list_all line_shows header && list_all (list_all line_shows) rows
    block_shows (element name attributes content) = is_rich && formats_show content
    block_shows b = true

    -- all formats of a document, and its elements: a rich page shows these
    pub formats_show : Blocks → Bool
    formats_show no_blocks = true
    formats_show (block b bs) = block_shows b && formats_show bs

    pub items_show : Items → Bool
    items_show no_items = true
    items_show (item bs rest) = formats_show bs && items_show rest

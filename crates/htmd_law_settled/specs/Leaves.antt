-- What leaves of a document may be like.
use Rattle.std.specs.Prelude.{ℕ, Bool, true, ◌&&◌, List, Option}
use Rattle.std.specs.List.{list_all}
use Rattle.std.specs.Str.{chars}
use Rattle.htmd_document.specs.Formats.{Format}
use Rattle.htmd_document.specs.Documents.{Inline, text, code, formatted, link, image, anchor, line_break, task}
use Rattle.htmd_document.specs.Documents.{Inlines, no_inlines, inline, Block, paragraph, heading, code_block, quote}
use Rattle.htmd_document.specs.Documents.{thematic_break, list, table, element, tags, Blocks, no_blocks, block}
use Rattle.htmd_document.specs.Documents.{Items, no_items, item, BlockAttribute}
use Rattle.htmd_document.specs.declared.document.BlockElement.{BlockElement}

-- the characters of texts and codes in lines, formats, addresses with titles, images, code blocks, and whole lines,
-- what headings hold, lists, tight or not, with their items, the header and rows of tables, and elements with their
-- attributes and content
pub record Leaves : Type 0 where
  pub character : ℕ → Bool
  pub format : Format → Bool
  pub link : List ℕ → Option (List ℕ) → Bool
  pub image : List ℕ → Option (List ℕ) → List ℕ → Bool
  pub code : Option (List ℕ) → List ℕ → Bool
  pub line : Inlines → Bool
  pub heading : Inlines → Bool
  pub list : Bool → Items → Bool
  pub table : List Inlines → List (List Inlines) → Bool
  pub element : BlockElement → List BlockAttribute → Blocks → Bool

module _ (k : Leaves) where
  abbrev pub is_text_of : List ℕ → Bool
  is_text_of s = list_all k.character (chars s)

  abbrev mutual
    pub is_inline_of : Inline → Bool
    is_inline_of (text s) = is_text_of s
    is_inline_of (code s) = is_text_of s
    is_inline_of (formatted f content) = k.format f && is_line_of content
    is_inline_of (link address title content) = k.link address title && is_line_of content
    is_inline_of (image address title description) = k.image address title description
    is_inline_of (anchor id) = true
    is_inline_of line_break = true
    is_inline_of (task is_checked) = true

    pub is_line_of : Inlines → Bool
    is_line_of no_inlines = true
    is_line_of (inline x xs) = is_inline_of x && is_line_of xs

  -- what a paragraph, a heading or a cell holds
  abbrev pub is_whole_line_of : Inlines → Bool
  is_whole_line_of content = is_line_of content && k.line content

  abbrev pub are_cells_of : List Inlines → Bool
  are_cells_of cells = list_all is_whole_line_of cells

  abbrev mutual
    pub is_block_of : Block → Bool
    is_block_of (paragraph content) = is_whole_line_of content
    is_block_of (heading level content) = is_whole_line_of content && k.heading content
    is_block_of (code_block language s) = k.code language s
    is_block_of (quote content) = are_blocks_of content
    is_block_of thematic_break = true
    is_block_of (list start is_tight items) = k.list is_tight items && are_items_of items
    is_block_of (table alignments header rows) =
        k.table header rows && (are_cells_of header && list_all are_cells_of rows)
    is_block_of (element name attributes content) = k.element name attributes content && are_blocks_of content
    is_block_of (tags s) = true

    -- all leaves of these blocks are so
    pub are_blocks_of : Blocks → Bool
    are_blocks_of no_blocks = true
    are_blocks_of (block b bs) = is_block_of b && are_blocks_of bs

    pub are_items_of : Items → Bool
    are_items_of no_items = true
    are_items_of (item bs items) = are_blocks_of bs && are_items_of items
